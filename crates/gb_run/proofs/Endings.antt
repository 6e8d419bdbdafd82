-- Runs of actions, one action more at a time.
use Rattle.std.proofs.Common.{◌≡◌, List, [], ◌∷◌, ◌++◌, length, Some, None, Result, Ok, Err, refl, ap, ◌∙◌}
use Rattle.gb_report.specs.declared.fault.Fault.{Fault}
use Rattle.gb_folder.specs.Files.{Files}
use Rattle.gb_action.specs.Files.{Trees}
use Rattle.gb_action.specs.Meanings.{Values}
use Rattle.gb_plan.specs.declared.task.Action.{Action}
use Rattle.gb_plan.specs.declared.task.Output.{Output}
use Rattle.gb_semantics.specs.Kinds.{Kinds, kind_of}
use Rattle.gb_semantics.specs.Run.{Ended, ends, or_end, step_by, with_done}

-- a run after actions that ended
abbrev pub following : List Action → Ended → Ended
following [] ended = ended
following (action ∷ actions) ended = with_done action (following actions ended)

pub following-fault : (done : List Action) (ended : Ended) → (following done ended).fault ≡ ended.fault
following-fault [] ended = refl
following-fault (action ∷ done) ended = following-fault done ended

pub following-held : (done : List Action) (ended : Ended) → (following done ended).held ≡ ended.held
following-held [] ended = refl
following-held (action ∷ done) ended = following-held done ended

pub following-done : (done : List Action) (ended : Ended) → (following done ended).done ≡ done ++ ended.done
following-done [] ended = refl
following-done (action ∷ done) ended = ap (λ actions. action ∷ actions) (following-done done ended)

some_none : {A : Type 0} (fault : Fault) → Some fault ≡ None → A
some_none fault e = absurd (cc)

pub with_none : {X : Type 0} (xs : List X) → xs ++ [] ≡ xs
with_none [] = refl
with_none (x ∷ xs) = ap (λ ys. x ∷ ys) (with_none xs)

-- nothing is left
pub none_left : {X : Type 0} (xs : List X) → length xs ≡ 0 → xs ≡ []
none_left [] e = refl
none_left (x ∷ xs) e = absurd (cc)

module _ (kinds : Kinds) (outputs : List Output) (values : Values) (trees : Trees) (rest : Files) where
  abbrev pub run : Files → List Action → Ended
  run held actions = ends kinds outputs values trees rest held actions

  abbrev pub step : Files → Action → Result Files Fault
  step held action = step_by outputs rest held (kinds.makes (kind_of action) action.args values trees)

  -- what ended continues with what its last action left
  pub on : (done left : List Action) (held : Files) → (run held done).fault ≡ None → run held (done ++ left) ≡ following done (run (run held done).held left)
  on [] left held e = refl
  on (action ∷ done) left held e =
      elim (step held action) as (λ r. (or_end action held r (λ more. run more done)).fault ≡ None
      → or_end action held r (λ more. run more (done ++ left)) ≡ with_done action (following done (run (or_end action held r (λ more. run more done)).held left))) [
        | Ok more ↦ λ h. ap (with_done action) (on done left more h)
        | Err fault ↦ λ h. some_none fault h
      ] e

  -- a run without a fault ended all its actions
  pub all_done : (done : List Action) (held : Files) → (run held done).fault ≡ None → (run held done).done ≡ done
  all_done [] held e = refl
  all_done (action ∷ done) held e =
      elim (step held action) as (λ r. (or_end action held r (λ more. run more done)).fault ≡ None → (or_end action held r (λ more. run more done)).done ≡ action ∷ done) [
        | Ok more ↦ λ h. ap (λ actions. action ∷ actions) (all_done done more h)
        | Err fault ↦ λ h. some_none fault h
      ] e

  -- an action more that ends
  pub more_fault : (done : List Action) (held more : Files) (action : Action) → (run held done).fault ≡ None → step (run held done).held action ≡ Ok more
      → (run held (done ++ action ∷ [])).fault ≡ None
  more_fault done held more action e is =
      ap (λ (r : Ended). r.fault) (on done (action ∷ []) held e) ∙ following-fault done (run (run held done).held (action ∷ []))
      ∙ ap (λ r. (or_end action (run held done).held r (λ m. run m [])).fault) is

  pub more_held : (done : List Action) (held more : Files) (action : Action) → (run held done).fault ≡ None → step (run held done).held action ≡ Ok more
      → (run held (done ++ action ∷ [])).held ≡ more
  more_held done held more action e is =
      ap (λ (r : Ended). r.held) (on done (action ∷ []) held e) ∙ following-held done (run (run held done).held (action ∷ []))
      ∙ ap (λ r. (or_end action (run held done).held r (λ m. run m [])).held) is

  -- an action that cannot go on
  pub stops_fault : (done left : List Action) (held : Files) (action : Action) (fault : Fault) → (run held done).fault ≡ None → step (run held done).held action ≡ Err fault
      → (run held (done ++ action ∷ left)).fault ≡ Some fault
  stops_fault done left held action fault e is =
      ap (λ (r : Ended). r.fault) (on done (action ∷ left) held e) ∙ following-fault done (run (run held done).held (action ∷ left))
      ∙ ap (λ r. (or_end action (run held done).held r (λ m. run m left)).fault) is

  pub stops_done : (done left : List Action) (held : Files) (action : Action) (fault : Fault) → (run held done).fault ≡ None → step (run held done).held action ≡ Err fault
      → (run held (done ++ action ∷ left)).done ≡ done
  stops_done done left held action fault e is =
      ap (λ (r : Ended). r.done) (on done (action ∷ left) held e) ∙ following-done done (run (run held done).held (action ∷ left))
      ∙ ap (λ r. done ++ (or_end action (run held done).held r (λ m. run m left)).done) is ∙ with_none done
