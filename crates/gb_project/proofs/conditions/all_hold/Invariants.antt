use Rattle.gb_registry.specs.Said.{Registered}
use Rattle.gb_registry.specs.Source.{Source}
use Rattle.gb_registry.specs.Tables.{tables_of}
use Rattle.gb_project.specs.Over.{IsOver, known_names}
use Rattle.gb_declare.specs.Whole.{spots, whole}
use Rattle.gb_project.proofs.WalkLemmas.{IsWalked}
use Rattle.std.proofs.Common.{◌≡◌, ℕ, Bool, List, drop, length, map}
use Rattle.std.specs.List.{list_all}
use Rattle.gb_declare.specs.Borrowed.{now_of}
use Rattle.gb_declare.specs.Realised.{passes}
use Rattle.gb_script.specs.declared.script.Condition.{Condition}
use Rattle.gb_project.specs.Rows.{Anywhere, AreFor, AreWithin}
use Rattle.gb_project.proofs.conditions.all_hold.Given as goal

abbrev pub invariant-loop-condition : goal.invariant-loop-condition
invariant-loop-condition g l = record {
  kept : l.providers ≡ l.initial.providers;
  within : AreWithin l.initial.providers.nodes l.rest;
  count : length l.rest ≡ length (drop l.condition-index l.conditions);
  reported : (source : Source) (number : ℕ → ℕ)
      → IsOver (tables_of g.T.Transforms.meanings g.A.Actions.meanings l.context.tables.now) source (known_names l.context.projects.now l.context.tasks.now) l.context.faults.now l.initial.providers.nodes number
      → (at : Registered) → Anywhere at
      → AreFor (tables_of g.T.Transforms.meanings g.A.Actions.meanings l.context.tables.now) source number at.project l.row (map (λ condition. condition.value) (now_of l.conditions))
      → AreFor (tables_of g.T.Transforms.meanings g.A.Actions.meanings l.context.tables.now) source number at.project l.rest (map (λ (condition : Condition). condition.value) (now_of (drop l.condition-index l.conditions)))
      × ((truths : List Bool) × (list_all (λ truth. truth) truths ≡ l.all) × IsWalked (passes (tables_of g.T.Transforms.meanings g.A.Actions.meanings l.context.tables.now) source at (spots (tables_of g.T.Transforms.meanings g.A.Actions.meanings l.context.tables.now) source) (whole (tables_of g.T.Transforms.meanings g.A.Actions.meanings l.context.tables.now) source)) (now_of l.conditions) truths (now_of (drop l.condition-index l.conditions)));
}
