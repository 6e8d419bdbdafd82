use Rattle.std.proofs.Common.{ap, sym, ◌∙◌}
use Rattle.std.specs.Option.{option_or}
use Rattle.gb_action.specs.Files.{file_at}
use Rattle.gb_action.specs.Outputs.{written_at}
use Rattle.gb_action.specs.Shapes.{target}
use Rattle.gb_kinds.specs.Remade.{as_made}
use Rattle.gb_with.proofs.ByPath.{ordered, put_one}
use Rattle.gb_with.proofs.remaking.by_path.Goals as goal

pub loop-path-preserved-in_ok-insert : goal.loop-path-preserved-in_ok-insert
loop-path-preserved-in_ok-insert c = record {
  ordered = ordered c.insert.new.self.entries c.in_ok-insert.ensures.ordered;
  files = λ path.
      put_one c.loop-path.made.entries c.insert.new.self.entries c.in-Some.path c.in-Some.bytes c.next.new.self.rest.items path (c.in_ok-insert.ensures.updates.0 path)
      ∙ ap (λ files. option_or (written_at (as_made files) target path) (file_at c.loop-path.made.entries path)) (sym c.in-Some.ensures.steps.0)
      ∙ c.loop-path.invariant.files path;
}

pub loop-path-preserved : goal.loop-path-preserved
loop-path-preserved c = record {
  ordered = ordered c.insert.new.self.entries c.in_ok-insert.ensures.ordered;
  files = λ path.
      put_one c.loop-path.made.entries c.insert.new.self.entries c.in-Some.path c.in-Some.bytes c.next.new.self.rest.items path (c.in_ok-insert.ensures.updates.0 path)
      ∙ ap (λ files. option_or (written_at (as_made files) target path) (file_at c.loop-path.made.entries path)) (sym c.in-Some.ensures.steps.0)
      ∙ c.loop-path.invariant.files path;
}
