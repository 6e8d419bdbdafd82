use Rattle.std.proofs.Common.{◌≡◌, ℕ, List, take, IsTrue}
use Rattle.std.specs.BTreeSet.{contains}
use Rattle.std.specs.FinMap.Entries.{is_sorted}
use Rattle.std.specs.List.{list_all, list_any}
use Rattle.gb_core.specs.Place.{is_rel_path}
use Rattle.gb_core.specs.Lists.{byte_order}
use Rattle.gb_action.specs.Files.{file_at, tree_at}
use Rattle.gb_action.specs.Shapes.{source}
use Rattle.gb_kinds.specs.Carried.{as_files, holds_in, is_of_change, lines_where, path_of}
use Rattle.gb_kinds.specs.Words.{index_files}
use Rattle.gb_kinds.proofs.carried.changed_of.Given as goal

abbrev pub invariant-loop-change : goal.invariant-loop-change
invariant-loop-change l = record {
  ordered : IsTrue (is_sorted byte_order (index_files l.changed.index));
  lines : (line : List ℕ) → contains byte_order l.changed.lines line ≡ is_of_change (take l.change-index l.changes) line;
  words : (word : List ℕ) → contains byte_order l.changed.words word ≡ list_any (λ change. holds_in (file_at (tree_at l.request.files source) (path_of change)) word) (take l.change-index l.changes);
  entries : (word : List ℕ) → file_at (index_files l.changed.index) word ≡ lines_where (λ file. holds_in (file_at (tree_at l.request.files source) file.0) word) (as_files (take l.change-index l.changes));
  paths : IsTrue (list_all (λ change. is_rel_path (path_of change)) (take l.change-index l.changes));
}
