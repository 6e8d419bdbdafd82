-- An invocation passes to what scripts register elsewhere, if here they register the same.
use Rattle.std.specs.Prelude.{ℕ, ◌≡◌, ◌≤◌, Bool, IsTrue, List, Err, Ok, Result}
use Rattle.std.proofs.Common.{refl, sym, subst, inl, inr}
use Rattle.gb_folder.specs.Files.{Contents, Files, SameTearing, Tearing}
use Rattle.gb_folder.proofs.Changes.{HasRisen-before}
use Rattle.gb_semantics.specs.declared.events.Answer.TheVariants as answers
use Rattle.gb_semantics.specs.declared.events.Event.TheVariants as events
use Rattle.gb_semantics.specs.declared.events.Invocation.{Invocation}
use Rattle.gb_semantics.specs.Edits.{Shown}
use Rattle.gb_semantics.specs.Events.{HasPlan, IsBuild, IsNotBuilt, Setting, State, Step, may_occur, own_files, world_in}
use Rattle.gb_semantics.specs.Headline.{Registering, StillClear, answer_of, state_of}
use Rattle.gb_semantics.specs.Kinds.{Kinds}
use Rattle.gb_semantics.specs.Label.{Moment}
use Rattle.gb_semantics.specs.Memory.{Memory}
use Rattle.gb_semantics.specs.TrueRecord.{outside}
use Rattle.gb_semantics.specs.Execution.{Guard, WorldState as At}
use Rattle.gb_semantics.proofs.Lemmas.Weaker.{builds_weaker}
use Rattle.gb_build.specs.Leading.{IsTransition, LeadsTo}
use Rattle.gb_build.proofs.Earlier.{builds_since}
use Rattle.gb_build.proofs.Leading.{nothing_leads}
use Rattle.gb_plan.specs.Graph.{Plan, Registry}
use Rattle.gb_plan.specs.declared.task.TaskDeclaration.{TaskDeclaration as Task}
use Rattle.gb_report.specs.declared.fault.Fault.{Fault}
use Rattle.gb_report.specs.declared.fault.Fault.TheVariants as faults
use Rattle.gb_report.specs.declared.report.Options.{Options}
use Rattle.gb_report.specs.declared.report.Report.{Report}
use Rattle.gb_records.specs.Setting.{setting_by}

-- scripts that register these tasks in every folder
abbrev pub always : Registry → Registering
always registry files given said = Ok registry ≡ said

-- the contents and the count of failures that a folder shows
abbrev pub shows : Contents → ℕ → Shown
shows contents failures = record { contents = contents; failures = failures }

module _ (kinds : Kinds) (registry : Registry) (registers : Registering) (may_leave second : Tearing) (alike : SameTearing may_leave second)
    (invocation : Invocation) (contents : Contents) (before later : ℕ) (earlier : before ≤ later)
    (says : registers (outside contents).files invocation.properties (Ok registry)) where
  abbrev one : Setting
  one = setting_by kinds (always registry) second

  abbrev two : Setting
  two = setting_by kinds registers may_leave

  abbrev from_later : Memory → State
  from_later remembered = state_of (shows contents later) remembered

  abbrev from_before : Memory → State
  from_before remembered = state_of (shows contents before) remembered

  -- a fault that is possible there with the torn writes of a folder is possible with those of an equal one
  may_alike : (own : Files) (options : Options) (task : Task) (moment : Moment) (new : At) (fault : Fault)
      → may_occur one own options task moment new fault → may_occur two own options task moment new fault
  may_alike own options task moment new faults.OutOfMemory may = may
  may_alike own options task moment new (faults.Device place) may = (
    may.0,
    may.1,
    elim may.2 [
      | inl exists ↦ inl exists
      | inr torn ↦ inr (torn.0, torn.1, torn.2, torn.3, (alike place torn.0 torn.1 _).0 torn.4)
    ],
  )
  may_alike own options task moment new faults.HistoryNotWritten may = may
  may_alike own options task moment new other may = absurd may

  planned_too : (plan : Plan) → HasPlan one (outside contents) invocation plan → HasPlan two (outside contents) invocation plan
  planned_too plan is = record {
    registry = is.registry;
    scripts = subst (registers (outside contents).files invocation.properties) is.scripts says;
    request = is.request;
    asked = is.asked;
    planned = is.planned;
  }

  module _ (remembered : Memory) (clear : Bool) (observed : List (List ℕ)) where
    abbrev assumed : Guard
    assumed = StillClear two (IsTrue clear) (from_before remembered)

    build_too : (report : Report) (new : State) → IsBuild one assumed observed (from_later remembered) invocation report new → IsBuild two assumed observed (from_before remembered) invocation report new
    build_too report new is = record {
      plan = is.plan;
      planned = planned_too is.plan is.planned;
      dry_run = is.dry_run;
      elsewhere = is.elsewhere;
      dry_keeps = is.dry_keeps;
      builds =
          builds_since two (own_files contents) invocation.options is.plan before assumed observed (world_in (from_before remembered)) later report.tasks
          (record { world = world_in new; failures = new.failures }) earlier
          (builds_weaker kinds invocation.options is.plan (may_occur one (own_files contents) invocation.options) (may_occur two (own_files contents) invocation.options)
          (may_alike (own_files contents) invocation.options) assumed assumed (λ contents given. given)
          observed later new.failures (world_in (from_before remembered)) (world_in new) report.tasks is.builds);
      success = is.success;
    }

    refusal_too : (fault : Fault) (after : ℕ) → later ≤ after → IsNotBuilt (always registry) (shows contents later) invocation fault after → IsNotBuilt registers (shows contents before) invocation fault after
    refusal_too fault after count (inl said) = absurd (cc)
    refusal_too fault after count (inr (inl (other, scripts, refused))) =
        inr (inl (other, subst (registers (outside contents).files invocation.properties) scripts says, refused))
    refusal_too fault after count (inr (inr (inl out))) = inr (inr (inl out))
    refusal_too fault after count (inr (inr (inr (place, first, (risen, is))))) = inr (inr (inr (place, first, (HasRisen-before before later after earlier count risen, is))))

    step_too : (result : Result Report Fault) (next : State) → later ≤ next.failures
        → Step one assumed observed (from_later remembered) (events.Invoke invocation) (answer_of result) next
        → Step two assumed observed (from_before remembered) (events.Invoke invocation) (answer_of result) next
    step_too (Ok report) next count is = build_too report next is
    step_too (Err fault) next count (why, same, kept) = (refusal_too fault next.failures count why, same, kept)

    led_too : (result : Result Report Fault) (end : Shown) → later ≤ end.failures
        → LeadsTo one clear observed (from_later remembered) (events.Invoke invocation) (answer_of result) end
        → LeadsTo two clear observed (from_before remembered) (events.Invoke invocation) (answer_of result) end
    led_too result end count led = record {
      remembered = led.remembered;
      step = step_too result (state_of end led.remembered) count led.step;
      exists = led.exists;
    }

  -- an invocation after the scripts were read continues a run like one from before
  pub since_read : (result : Result Report Fault) (end : Shown) → later ≤ end.failures
      → IsTransition one (shows contents later) (events.Invoke invocation) (answer_of result) end
      → IsTransition two (shows contents before) (events.Invoke invocation) (answer_of result) end
  since_read result end count leads remembered clear observed worth =
      led_too remembered clear observed result end count (leads remembered clear observed worth)

-- ---- Refusals

-- an invocation that is not built, and changed nothing
pub refused_leads : (setting : Setting) (old end : Shown) (invocation : Invocation) (fault : Fault)
    → IsNotBuilt setting.registers old invocation fault end.failures
    → end.contents ≡ old.contents → (result : Result Report Fault) → result ≡ Err fault → IsTransition setting old (events.Invoke invocation) (answer_of result) end
refused_leads setting old end invocation fault why same result is =
    subst (λ (r : Result Report Fault). IsTransition setting old (events.Invoke invocation) (answer_of r) end) (sym is)
    (λ remembered clear observed worth. nothing_leads setting old end (events.Invoke invocation) (answers.NotBuilt fault) same remembered clear observed worth
    (why, same, refl))

-- memory ran out
pub out_of_memory : (setting : Setting) (old end : Shown) (invocation : Invocation) (fault : Fault) → fault ≡ faults.OutOfMemory
    → end.contents ≡ old.contents → (result : Result Report Fault) → result ≡ Err fault → IsTransition setting old (events.Invoke invocation) (answer_of result) end
out_of_memory setting old end invocation fault out = refused_leads setting old end invocation fault (inr (inr (inl out)))
