use Rattle.std.proofs.Common.{◌≡◌, ℕ, drop}
use Rattle.std.specs.List.{flat_map}
use Rattle.gb_core.specs.Tasks.{with_tasks}
use Rattle.gb_registry.specs.Source.{Source}
use Rattle.gb_registry.specs.Tables.{tables_of}
use Rattle.gb_project.specs.Given.{producers_at}
use Rattle.gb_project.specs.Over.{IsOver, known_names}
use Rattle.gb_project.specs.Rows.{numbers_in}
use Rattle.gb_project.proofs.needs.add_producers.Given as goal

abbrev pub invariant-loop-node : goal.invariant-loop-node
invariant-loop-node g l = record {
  kept : l.providers ≡ l.initial.providers;
  reported : (source : Source) (number : ℕ → ℕ)
      → IsOver (tables_of g.T.Transforms.meanings g.A.Actions.meanings l.context.tables.now) source (known_names l.context.projects.now l.context.tasks.now) l.context.faults.now l.initial.providers.nodes number
      → with_tasks l.tasks (flat_map (producers_at (tables_of g.T.Transforms.meanings g.A.Actions.meanings l.context.tables.now) source) (numbers_in number (drop l.node-index l.row)))
      ≡ with_tasks l.initial.tasks (flat_map (producers_at (tables_of g.T.Transforms.meanings g.A.Actions.meanings l.context.tables.now) source) (numbers_in number l.row));
}
