use Rattle.std.proofs.Common.{◌≡◌, ℕ, List, IsTrue}
use Rattle.std.specs.FinMap.Entries.{is_sorted}
use Rattle.std.specs.Option.{option_or}
use Rattle.gb_core.specs.Lists.{byte_order}
use Rattle.gb_action.specs.Files.{file_at}
use Rattle.gb_action.specs.Outputs.{written_at}
use Rattle.gb_action.specs.Shapes.{target}
use Rattle.gb_kinds.specs.Remade.{as_made}
use Rattle.gb_with.proofs.remaking.by_path.Given as goal

abbrev pub invariant-loop-path : goal.invariant-loop-path
invariant-loop-path l = record {
  ordered : IsTrue (is_sorted byte_order l.made.entries);
  files : (path : List ℕ)
      → option_or (written_at (as_made l.path-iterator.rest.items) target path) (file_at l.made.entries path)
      ≡ written_at (as_made l.initial.path-iterator.rest.items) target path;
}
