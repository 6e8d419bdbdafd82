use Rattle.std.proofs.Common.{◌≡◌, ℕ, drop, take}
use Rattle.gb_registry.specs.Source.{Source}
use Rattle.gb_registry.specs.Tables.{tables_of}
use Rattle.gb_project.specs.Given.{required_at}
use Rattle.gb_project.specs.Over.{IsOver, known_names}
use Rattle.gb_project.specs.Rows.{HaveValues, numbers_in}
use Rattle.gb_project.proofs.WalkLemmas.{IsWalked}
use Rattle.gb_project.proofs.row_values.arguments.Given as goal

abbrev pub invariant-loop-node : goal.invariant-loop-node
invariant-loop-node g l = record {
  kept : l.providers ≡ l.initial.providers;
  given : HaveValues g.T.Transforms.meanings l.initial.providers.nodes (take l.node-index l.row);
  reported : (source : Source) (number : ℕ → ℕ)
      → IsOver (tables_of g.T.Transforms.meanings g.A.Actions.meanings l.context.tables.now) source (known_names l.context.projects.now l.context.tasks.now) l.context.faults.now l.initial.providers.nodes number
      → IsWalked (required_at (tables_of g.T.Transforms.meanings g.A.Actions.meanings l.context.tables.now) source l.path l.name) (numbers_in number l.row) l.found (numbers_in number (drop l.node-index l.row));
}
