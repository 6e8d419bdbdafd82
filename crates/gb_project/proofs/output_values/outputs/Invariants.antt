use Rattle.gb_registry.specs.Said.{Registered}
use Rattle.gb_registry.specs.Source.{Source}
use Rattle.gb_registry.specs.Tables.{tables_of}
use Rattle.gb_project.specs.Over.{IsOver, known_names}
use Rattle.gb_declare.specs.Whole.{spots, whole}
use Rattle.gb_project.proofs.WalkLemmas.{IsWalked}
use Rattle.std.proofs.Common.{◌≡◌, ℕ, length, map}
use Rattle.gb_declare.specs.Borrowed.{outputs_in}
use Rattle.gb_declare.specs.Joined.{Made, Named}
use Rattle.gb_declare.specs.Realised.{output_under}
use Rattle.gb_project.specs.Evaluated.{IsBuiltIn}
use Rattle.gb_project.specs.Rows.{AreFor, AreWithin}
use Rattle.gb_project.proofs.output_values.outputs.Given as goal

abbrev pub invariant-loop-name : goal.invariant-loop-name
invariant-loop-name g l = record {
  kept : l.providers ≡ l.initial.providers;
  within : AreWithin l.initial.providers.nodes l.rest;
  count : length l.rest ≡ length l.name-iterator;
  reported : (source : Source) (number : ℕ → ℕ)
      → IsOver (tables_of g.T.Transforms.meanings g.A.Actions.meanings l.context.tables.now) source (known_names l.context.projects.now l.context.tasks.now) l.context.faults.now l.initial.providers.nodes number
      → (at : Registered) → IsBuiltIn l.path l.build at
      → AreFor (tables_of g.T.Transforms.meanings g.A.Actions.meanings l.context.tables.now) source number at.project l.row (map (λ output. output.1.1) (outputs_in l.outputs))
      → AreFor (tables_of g.T.Transforms.meanings g.A.Actions.meanings l.context.tables.now) source number at.project l.rest (map (λ (output : Named Made). output.1.1) (map (λ e. (e.0, (e.1.0, e.1.1.now))) l.name-iterator))
      × IsWalked (output_under (tables_of g.T.Transforms.meanings g.A.Actions.meanings l.context.tables.now) source at (spots (tables_of g.T.Transforms.meanings g.A.Actions.meanings l.context.tables.now) source) (whole (tables_of g.T.Transforms.meanings g.A.Actions.meanings l.context.tables.now) source)) (outputs_in l.outputs) (l.found.items) (map (λ e. (e.0, (e.1.0, e.1.1.now))) l.name-iterator);
}
