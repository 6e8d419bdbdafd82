-- The conflicts of places, one place after another.
use Rattle.std.specs.Prelude.{ℕ, ◌≡◌, ◌⊎◌, ◌<◌, ◌+◌, ◌↔◌, List, length, get_or, take, refl, Contains}
use Rattle.std.proofs.Common.{sym, ap, subst, ◌∙◌, inl, inr}
use Rattle.gb_graph.proofs.Edges.{take_grows}
use Rattle.gb_graph.specs.Cycle.{path_at}
use Rattle.gb_plan.specs.declared.plan.Planned.{Planned}
use Rattle.gb_plan.specs.Refusal.{Conflict}
use Rattle.gb_graph.specs.declared.conflicting.Search.{Search}
use Rattle.gb_graph.specs.declared.places.TaskPlace.{TaskPlace}
use Rattle.gb_graph.specs.Conflicts.{IsConflictThere, IsConflictAt, IsConflictTask}

-- the task of one more place conflicts with these tasks
pub meets_more : (search : Search) (chains : List (List ℕ)) (tasks : List Planned) (outputs places : List TaskPlace) (i : ℕ) (at : TaskPlace) → i < length places → at ≡ get_or places i at
    → (others : List ℕ) → ((task : ℕ) → Contains others task ↔ IsConflictTask search chains outputs at task) → (conflict : Conflict)
    → IsConflictThere search chains tasks outputs (take (i + 1) places) conflict ↔ (IsConflictThere search chains tasks outputs (take i places) conflict ⊎ IsConflictAt tasks at others conflict)
meets_more search chains tasks outputs places i at lt is others reported conflict = (
  λ m. elim ((take_grows places i at m.at lt is).0 m.at_in) [
    | inl o ↦ inl (record { at = m.at; at_in = o; other = m.other; met = m.met; is_task = m.is_task; is_other = m.is_other; is_place = m.is_place })
    | inr e ↦ inr (record {
      other = m.other;
      other_in = (reported m.other).1 (subst (λ (p : TaskPlace). IsConflictTask search chains outputs p m.other) (sym e) m.met);
      is_task = m.is_task ∙ ap (λ (p : TaskPlace). path_at tasks p.task) (sym e);
      is_other = m.is_other;
      is_place = m.is_place ∙ ap (λ (p : TaskPlace). p.place) (sym e);
    })
  ],
  λ h. elim h [
    | inl m ↦ record { at = m.at; at_in = (take_grows places i at m.at lt is).1 (inl m.at_in); other = m.other; met = m.met; is_task = m.is_task; is_other = m.is_other; is_place = m.is_place }
    | inr m ↦ record {
      at = at;
      at_in = (take_grows places i at at lt is).1 (inr refl);
      other = m.other;
      met = (reported m.other).0 m.other_in;
      is_task = m.is_task;
      is_other = m.is_other;
      is_place = m.is_place;
    }
  ],
)
