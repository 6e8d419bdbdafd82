use Rattle.gb_registry.specs.Said.{Registered}
use Rattle.gb_registry.specs.Source.{Source}
use Rattle.gb_registry.specs.Tables.{tables_of}
use Rattle.gb_project.specs.Over.{IsOver, known_names}
use Rattle.gb_declare.specs.Whole.{spots, whole}
use Rattle.gb_project.proofs.WalkLemmas.{IsWalked}
use Rattle.std.proofs.Common.{◌≡◌, ℕ, length}
use Rattle.std.specs.List.{flat_map}
use Rattle.std.specs.VecDeque.Iter.{deque_iter_rest}
use Rattle.gb_declare.specs.Borrowed.{now_of}
use Rattle.gb_declare.specs.Realised.{action_of}
use Rattle.gb_script.specs.declared.script.Call.{Call}
use Rattle.gb_project.specs.Rows.{AreFor, AreWithin, HaveValues, IsAt}
use Rattle.gb_project.proofs.task_actions.actions.Given as goal

abbrev pub invariant-loop-call : goal.invariant-loop-call
invariant-loop-call g l = record {
  kept : l.providers ≡ l.initial.providers;
  within : AreWithin l.initial.providers.nodes l.rest;
  count : length l.rest ≡ length (flat_map (λ (call : Call). call.arguments) (now_of (deque_iter_rest l.call-iterator)));
  given : HaveValues g.T.Transforms.meanings l.initial.providers.nodes l.rest → HaveValues g.T.Transforms.meanings l.initial.providers.nodes l.row;
  reported : (source : Source) (number : ℕ → ℕ)
      → IsOver (tables_of g.T.Transforms.meanings g.A.Actions.meanings l.context.tables.now) source (known_names l.context.projects.now l.context.tasks.now) l.context.faults.now l.initial.providers.nodes number
      → (at : Registered) → IsAt l.path at
      → AreFor (tables_of g.T.Transforms.meanings g.A.Actions.meanings l.context.tables.now) source number at.project l.row (flat_map (λ call. call.arguments) (now_of l.calls))
      → AreFor (tables_of g.T.Transforms.meanings g.A.Actions.meanings l.context.tables.now) source number at.project l.rest (flat_map (λ (call : Call). call.arguments) (now_of (deque_iter_rest l.call-iterator)))
      × IsWalked (action_of (tables_of g.T.Transforms.meanings g.A.Actions.meanings l.context.tables.now) source at (spots (tables_of g.T.Transforms.meanings g.A.Actions.meanings l.context.tables.now) source) (whole (tables_of g.T.Transforms.meanings g.A.Actions.meanings l.context.tables.now) source)) (now_of l.calls) (l.found) (now_of (deque_iter_rest l.call-iterator));
}
