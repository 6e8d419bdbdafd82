-- The execution of the action that writes: it ends, or stops.
use Rattle.std.specs.Prelude.{ℕ, ◌≡◌, ◌⊎◌, true, List, [], ◌∷◌, map, Some, Result, Ok, Err, IsOk, IsTrue}
use Rattle.std.specs.List.{flat_map}
use Rattle.std.proofs.Common.{refl, sym, ap, subst, ◌∙◌, inl, inr}
use mathlib.Core.Bool.{true≢false}
use Rattle.std.specs.FinMap.Entries.{is_sorted}
use Rattle.gb_core.specs.Lists.{byte_order, first_of}
use Rattle.gb_folder.specs.Files.{Place, Contents, Files, HasRisen, IsFolder, Tearing, are_placed, is_blocked}
use Rattle.gb_report.specs.declared.fault.Fault.{Fault}
use Rattle.gb_report.specs.declared.fault.Fault.TheVariants as faults
use Rattle.gb_action.specs.Changes.{Changes}
use Rattle.gb_action.specs.Files.{Trees}
use Rattle.gb_action.specs.Replies.{Answers}
use Rattle.gb_action.specs.declared.output_files.OutputFiles.{OutputFiles}
use Rattle.gb_action.specs.declared.reply.Reply.{Reply}
use Rattle.gb_action.specs.declared.reply.Written.{Written}
use Rattle.gb_plan.specs.Task.{Text}
use Rattle.gb_plan.specs.declared.task.Action.{Action}
use Rattle.gb_plan.specs.declared.task.Output.{Output}
use Rattle.gb_plan.specs.declared.task.TaskDeclaration.{TaskDeclaration as Task}
use Rattle.gb_folder.specs.Changes.{IsHindered}
use Rattle.gb_semantics.specs.Kinds.{Kinds, kind_of}
use Rattle.gb_semantics.specs.Made.{file_faults, full_outputs, placed, put_over, rest_of, step_faults}
use Rattle.gb_semantics.specs.Run.{step_by}
use Rattle.gb_run.specs.Asking.{made_by}
use Rattle.gb_run.specs.RunInput.{free_files}
use Rattle.gb_run.specs.Placing.{faults_beside}
use Rattle.gb_run.proofs.Beside.{beside_held, over_by_place}
use Rattle.gb_run.proofs.Endings.{with_none}
use Rattle.gb_run.proofs.Room.{free_is, step_hindered}
use Rattle.gb_run.specs.AskingChanges.{request_of}
use Rattle.gb_run.specs.ChangeLaws.{IsReplied}
use Rattle.gb_run.specs.Named.{held_after, named, steps_of}
use Rattle.gb_run.specs.Stepping.{FailsByMachine, HasRoom, IsCutShort, IsShutOut}
use Rattle.gb_run.specs.Steps.{LeadTo, Step, after_steps, folder_after, in_step_order}
use Rattle.gb_run.specs.Execution.{Ends, IsItsExecution, Stops}
use Rattle.gb_run.proofs.Blocked.{step_free, step_shut_out}
use Rattle.gb_run.proofs.Leading.{held_is_made, leads}
use Rattle.gb_run.proofs.Looks.{sorted_steps}
use Rattle.gb_run.proofs.RunStates.{by_machine}
use Rattle.gb_run.proofs.Placed.{none_after}
use Rattle.gb_run.proofs.Small.{steps_at_outputs}

pub ok_value : {T E : Type 0} (r : Result T E) → IsOk r → (value : T) × (r ≡ Ok value)
ok_value (Ok x) e = (x, refl)
ok_value (Err y) e = absurd (true≢false (sym e))

pub none_mapped : {X Y : Type 0} (f : X → Y) (xs : List X) → map f xs ≡ [] → xs ≡ []
none_mapped f [] e = refl
none_mapped f (x ∷ xs) e = absurd (let q = e in (cc))

module _ (kinds : Kinds) (task : Task) (action : Action) (trees : Trees) (old : Files) (may_leave : Tearing) (before : ℕ) (fault : Fault) (after : ℕ) where
  abbrev StopsWith : Files → Type 0
  StopsWith new = Stops kinds task action trees old may_leave before fault after new

  -- nothing was done, and the action itself stops here
  pub stops_itself : step_by task.outputs (rest_of task old) [] (made_by kinds task action trees) ≡ Err fault → StopsWith old
  stops_itself is = record { prefix = []; following = []; at_hand = inl refl; why = inl (is, refl) }

  -- nothing was done, and memory ran out
  pub stops_for_memory : fault ≡ faults.OutOfMemory → StopsWith old
  stops_for_memory is = record { prefix = []; following = []; at_hand = inl refl; why = inr (inl (is, refl)) }

  -- the action failed
  pub stops_asked : (text : Text) → fault ≡ faults.ActionFailed text → made_by kinds task action trees ≡ Err text → StopsWith old
  stops_asked text reported is = stops_itself (ap (step_by task.outputs (rest_of task old) []) is ∙ ap Err (sym reported))

module _ (kinds : Kinds) (task : Task) (action : Action) (trees : Trees) (changes : List Changes) (observed : List OutputFiles) (files : Files)
    (folder : IsFolder files) (good : IsTrue (are_placed files)) (turn : IsItsExecution kinds task action trees changes observed files) (reply : Reply)
    (answers : Answers (kinds.makes (kind_of action)) (kinds.prints (kind_of action)) (request_of task trees changes observed action.args) (Ok reply)) where
  made : (written : List Written) × (made_by kinds task action trees ≡ Ok written)
  made = ok_value (made_by kinds task action trees) (answers.succeeds reply refl)

  abbrev written : List Written
  written = made.0

  replied : IsReplied kinds task trees changes observed files reply made.0
  replied = record {
    in_order = folder.in_order;
    are_placed = good;
    fitting = turn.fitting;
    old = turn.old;
    goes_on = turn.goes_on;
    writer = action;
    writes = turn.writes;
    makes = made.1;
    carries = answers.by_changes reply refl refl;
  }

  abbrev steps : List Step
  steps = steps_of task.outputs reply.removes reply.writes

  steps_sorted : is_sorted byte_order (steps_of task.outputs reply.removes reply.writes) ≡ true
  steps_sorted = sorted_steps [] (named task.outputs reply.removes reply.writes) refl

  same_faults : faults_beside task.outputs [] (held_after task.outputs observed reply.removes reply.writes) ≡ step_faults task.outputs [] (placed task.outputs made.0)
  same_faults =
      ap (faults_beside task.outputs []) (held_is_made kinds task trees changes observed files reply made.0 replied)
      ∙ beside_held task.outputs [] (placed task.outputs made.0) refl

  module _ (may_leave : Tearing) (before : ℕ) (fault : Fault) (after : ℕ) where
    -- its files are in conflict with one another
    pub stops_placing : first_of (faults_beside task.outputs [] (held_after task.outputs observed reply.removes reply.writes)) ≡ Some fault → Stops kinds task action trees files may_leave before fault after files
    stops_placing first =
        stops_itself kinds task action trees files may_leave before fault after
        (ap (step_by task.outputs (rest_of task files) []) made.1 ∙ step_hindered task.outputs (rest_of task files) [] made.0 fault (ap first_of (sym same_faults) ∙ first))

  module _ (none : faults_beside task.outputs [] (held_after task.outputs observed reply.removes reply.writes) ≡ []) where
    none_made : step_faults task.outputs [] (placed task.outputs made.0) ≡ []
    none_made = sym same_faults ∙ none

    lead : LeadTo files (put_over (rest_of task files) (put_over [] (placed task.outputs made.0))) (in_step_order (steps_of task.outputs reply.removes reply.writes))
    lead = leads kinds task trees changes observed files reply made.0 replied none_made

    free_now : put_over [] (placed task.outputs made.0) ≡ put_over [] (free_files task.outputs [] (made_by kinds task action trees))
    free_now =
        over_by_place [] (placed task.outputs made.0) refl
        ∙ ap (put_over []) (sym (ap (free_files task.outputs []) made.1 ∙ free_is task.outputs (rest_of task files) [] made.0 none_made))

    lead_now : LeadTo files (put_over (rest_of task files) (put_over [] (free_files task.outputs [] (made_by kinds task action trees)))) (in_step_order (steps_of task.outputs reply.removes reply.writes))
    lead_now = subst (λ (fs : Files). LeadTo files (put_over (rest_of task files) fs) (in_step_order (steps_of task.outputs reply.removes reply.writes))) free_now lead

    -- all is done
    pub ends : (new : Files) → HasRoom files (in_step_order (steps_of task.outputs reply.removes reply.writes)) → new ≡ after_steps files (in_step_order (steps_of task.outputs reply.removes reply.writes)) → Ends kinds task action trees files new
    ends new room is = record {
      more = put_over [] (placed task.outputs made.0);
      step = ap (step_by task.outputs (rest_of task files) []) made.1
          ∙ step_free task files folder made.0 (steps_of task.outputs reply.removes reply.writes) steps_sorted (steps_at_outputs task.outputs reply.removes reply.writes) none_made lead room;
      few = none_mapped (λ (output : Output). faults.TooManyFiles output.name) (full_outputs task.outputs (put_over [] (placed task.outputs made.0)))
          (none_after (flat_map (file_faults (put_over [] (placed task.outputs made.0))) (put_over [] (placed task.outputs made.0))) _ none_made);
      files = is ∙ lead.reached;
    }

    module _ (may_leave : Tearing) (before : ℕ) (fault : Fault) (after : ℕ) where
      -- all is done, and memory ran out
      pub stops_printing : (new : Files) → new ≡ after_steps files (in_step_order (steps_of task.outputs reply.removes reply.writes)) → fault ≡ faults.OutOfMemory → Stops kinds task action trees files may_leave before fault after new
      stops_printing new is reported = record {
        prefix = in_step_order (steps_of task.outputs reply.removes reply.writes);
        following = [];
        at_hand = inr (subst (λ (ss : List Step). LeadTo files (put_over (rest_of task files) (put_over [] (free_files task.outputs [] (made_by kinds task action trees)))) ss)
            (sym (with_none (in_step_order (steps_of task.outputs reply.removes reply.writes)))) lead_now);
        why = inr (inl (reported, is));
      }

      -- its steps were cut short
      pub stops_taking : (old new : Contents) → old.files ≡ files → ((place : Place) → fault ≡ faults.Device place → HasRisen before after)
          → IsCutShort may_leave (in_step_order (steps_of task.outputs reply.removes reply.writes)) old fault new → Stops kinds task action trees files may_leave before fault after new.files
      stops_taking old new existed risen cut = record {
        prefix = cut.prefix;
        following = cut.step ∷ cut.following;
        at_hand = inr (subst (λ (ss : List Step). LeadTo files (put_over (rest_of task files) (put_over [] (free_files task.outputs [] (made_by kinds task action trees)))) ss) cut.all lead_now);
        why = at_stop cut.stopped;
      }
        where
          then : after_steps old.files cut.prefix ≡ after_steps files cut.prefix
          then = ap (λ (fs : Files). after_steps fs cut.prefix) existed

          at_stop : IsShutOut cut.step (folder_after old cut.prefix) fault new ⊎ IsHindered may_leave cut.step.0 cut.step.1 (folder_after old cut.prefix) fault new
              → ((step_by task.outputs (rest_of task files) [] (made_by kinds task action trees) ≡ Err fault) × (new.files ≡ after_steps files cut.prefix))
              ⊎ FailsByMachine may_leave before (after_steps files cut.prefix) (cut.step ∷ cut.following) fault after new.files
          at_stop (inl shut) = inl (
            ap (step_by task.outputs (rest_of task files) []) made.1
                ∙ step_shut_out task files folder made.0 (steps_of task.outputs reply.removes reply.writes) steps_sorted (steps_at_outputs task.outputs reply.removes reply.writes) none_made lead
                cut.prefix cut.step cut.following cut.all (subst (λ (fs : Files). HasRoom fs cut.prefix) existed cut.room) shut.comes
                (ap (λ (fs : Files). is_blocked fs cut.step.0) (sym then) ∙ shut.blocked)
                ∙ ap Err (sym shut.reported),
            ap (λ (c : Contents). c.files) shut.same ∙ then,
          )
          at_stop (inr hindered) = inr (by_machine may_leave before after old (after_steps files cut.prefix) cut.prefix cut.step cut.following fault new then risen hindered)
