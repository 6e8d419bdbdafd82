-- States of a run between two actions, and what a later failure of the machine means for an earlier call.
use Rattle.std.specs.Prelude.{ℕ, ◌≡◌, ◌≤◌, ◌⊎◌, ◌++◌, List, [], ◌∷◌, None, Result, Err}
use Rattle.std.proofs.Common.{refl, ap, subst, ◌∙◌, inl, inr}
use Rattle.gb_folder.specs.Files.{Contents, Files, HasRisen, Place, SameTearing, Tearing, file_at, with_left}
use Rattle.gb_folder.proofs.Changes.{HasRisen-before}
use Rattle.gb_report.specs.declared.fault.Fault.{Fault}
use Rattle.gb_report.specs.declared.fault.Fault.TheVariants as faults
use Rattle.gb_plan.specs.Task.{Text}
use Rattle.gb_plan.specs.declared.task.Action.{Action}
use Rattle.gb_folder.specs.Changes.{IsHindered}
use Rattle.gb_semantics.specs.Run.{step_by}
use Rattle.gb_run.specs.Asking.{made_by}
use Rattle.gb_run.specs.RunInput.{RunInput, files_at_hand, lines_by, run_along}
use Rattle.gb_run.specs.Failing.{AreAtHand, ByChanges, Fails, FailsByItself, InFull, RunState, RunMode, ended_files}
use Rattle.gb_run.specs.Named.{put}
use Rattle.gb_run.specs.Stepping.{FailsByMachine, StopsAt}
use Rattle.gb_run.specs.Steps.{Step, after_steps, folder_after}
use Rattle.gb_run.proofs.Endings.{stops_done, stops_fault}

-- ---- calls

-- what stopped a later call stopped all calls
pub machine_before : (first second : Tearing) (before between after : ℕ) (old new : Files) (following : List Step) (fault : Fault) → SameTearing first second → before ≤ between → between ≤ after
    → FailsByMachine second between old following fault after new → FailsByMachine first before old following fault after new
machine_before first second before between after old new following fault same le more (inl memory) = inl memory
machine_before first second before between after old new following fault same le more (inr stopped) = inr (record {
  step = stopped.step;
  later = stopped.later;
  next = stopped.next;
  device = stopped.device;
  risen = HasRisen-before before between after le more stopped.risen;
  left = stopped.left;
  may = (same stopped.step.0 _ stopped.step.1 stopped.left).0 stopped.may;
  files = stopped.files;
})

-- a step was prevented where these files were
pub by_machine : (may_leave : Tearing) (before after : ℕ) (old : Contents) (existed : Files) (prefix : List Step) (step : Step) (following : List Step) (fault : Fault) (new : Contents)
    → after_steps old.files prefix ≡ existed → ((place : Place) → fault ≡ faults.Device place → HasRisen before after)
    → IsHindered may_leave step.0 step.1 (folder_after old prefix) fault new → FailsByMachine may_leave before existed (step ∷ following) fault after new.files
by_machine may_leave before after old existed prefix step following fault new is risen (inl memory) = inl (memory.0, ap (λ (c : Contents). c.files) memory.1 ∙ is)
by_machine may_leave before after old existed prefix step following fault new is risen (inr torn) = inr (record {
  step = step;
  later = following;
  next = refl;
  device = torn.0;
  risen = risen step.0 torn.0;
  left = torn.1.0;
  may = subst (λ (fs : Files). may_leave step.0 (file_at fs step.0) step.1 torn.1.0) is torn.1.1;
  files = ap (λ (c : Contents). c.files) torn.1.2 ∙ ap (λ (fs : Files). with_left fs step.0 torn.1.0) is;
})

-- ---- between two actions

module _ (input : RunInput) where
  -- none of the steps at hand is done
  pub unbegun : (mode : RunMode) (done left : List Action) → (steps : List Step) × AreAtHand input mode done left steps
  unbegun InFull done left = (put (files_at_hand input (run_along input done).held left), refl)
  unbegun (ByChanges old) done [] = ([], refl)
  unbegun (ByChanges old) done (action ∷ left) = ([], inl refl)

  module _ (mode : RunMode) (done left : List Action) (all : input.task.actions ≡ done ++ left) (no_fault : (run_along input done).fault ≡ None) where
    abbrev pub state_at : RunState input mode
    state_at = record {
      done = done;
      left = left;
      all = all;
      no_fault = no_fault;
      prefix = [];
      following = (unbegun mode done left).0;
      at_hand = (unbegun mode done left).1;
    }

    -- memory ran out there
    pub fails_between : (may_leave : Tearing) (before after : ℕ) (fault : Fault) (lines : List Text) (new : Files) → fault ≡ faults.OutOfMemory → lines ≡ lines_by input done → new ≡ ended_files input mode done
        → Fails input mode may_leave before fault lines after new
    fails_between may_leave before after fault lines new reported printed exists = record { state = state_at; printed = printed; why = inr (inl (reported, exists)) }

-- ---- at an action

module _ (input : RunInput) (mode : RunMode) (done left : List Action) (action : Action) (all : input.task.actions ≡ done ++ action ∷ left) (no_fault : (run_along input done).fault ≡ None) where
  -- the result of the action after those that have ended
  abbrev comes_to : Result Files Fault
  comes_to = step_by input.task.outputs input.rest (run_along input done).held (made_by input.kinds input.task action input.trees)

  -- it stops
  pub fails_at : (first second : Tearing) (before between after : ℕ) (fault : Fault) (lines : List Text) (new : Files) → SameTearing first second → before ≤ between → between ≤ after → lines ≡ lines_by input done
      → StopsAt (AreAtHand input mode done (action ∷ left)) comes_to second between (ended_files input mode done) fault after new → Fails input mode first before fault lines after new
  fails_at first second before between after fault lines new same le more printed stops = record { state = here; printed = printed; why = at_stop stops.why }
    where
      here : RunState input mode
      here = record { done = done; left = action ∷ left; all = all; no_fault = no_fault; prefix = stops.prefix; following = stops.following; at_hand = stops.at_hand }

      at_stop : ((comes_to ≡ Err fault) × (new ≡ after_steps (ended_files input mode done) stops.prefix))
          ⊎ FailsByMachine second between (after_steps (ended_files input mode done) stops.prefix) stops.following fault after new
          → FailsByItself input mode here fault new ⊎ FailsByMachine first before (after_steps (ended_files input mode done) stops.prefix) stops.following fault after new
      at_stop (inl itself) = inl (record {
        faulty =
            ap (λ (actions : List Action). (run_along input actions).fault) all
            ∙ stops_fault input.kinds input.task.outputs input.task.values input.trees input.rest done left [] action fault no_fault itself.0;
        done =
            ap (λ (actions : List Action). (run_along input actions).done) all
            ∙ stops_done input.kinds input.task.outputs input.task.values input.trees input.rest done left [] action fault no_fault itself.0;
        files = itself.1;
      })
      at_stop (inr machine) = inr (machine_before first second before between after (after_steps (ended_files input mode done) stops.prefix) new stops.following fault same le more machine)
