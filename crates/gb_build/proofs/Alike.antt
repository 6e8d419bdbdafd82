-- What continues a run under one relation of torn writes continues it under an equal one.
use Rattle.std.specs.Prelude.{List, Option, None, Some}
use Rattle.std.proofs.Common.{inl, inr}
use Rattle.gb_folder.specs.Files.{Bytes, Files, Place, SameTearing, Tearing, file_at, places_under}
use Rattle.gb_semantics.specs.declared.events.Answer.{Answer}
use Rattle.gb_semantics.specs.declared.events.Answer.TheVariants as answers
use Rattle.gb_semantics.specs.declared.events.Event.{Event}
use Rattle.gb_semantics.specs.declared.events.Event.TheVariants as events
use Rattle.gb_semantics.specs.Edits.{IsStopped, LossStep, PutStep, RemoveStep, Shown, own_place}
use Rattle.gb_semantics.specs.Events.{State, Step, may_occur, own_files, shown_in, world_in}
use Rattle.gb_semantics.specs.Headline.{Registering}
use Rattle.gb_semantics.specs.Kinds.{Kinds}
use Rattle.gb_semantics.specs.Label.{Moment}
use Rattle.gb_semantics.specs.Execution.{Guard, WorldState}
use Rattle.gb_semantics.proofs.Lemmas.Weaker.{builds_weaker}
use Rattle.gb_plan.specs.declared.task.TaskDeclaration.{TaskDeclaration as Task}
use Rattle.gb_report.specs.declared.fault.Fault.{Fault}
use Rattle.gb_report.specs.declared.fault.Fault.TheVariants as faults
use Rattle.gb_report.specs.declared.report.Options.{Options}
use Rattle.gb_build.specs.Leading.{IsTransition}
use Rattle.gb_build.proofs.Editing.{cut_before}
use Rattle.gb_records.specs.Setting.{setting_by}

module _ (first second : Tearing) (same : SameTearing first second) where
  stopped_before : (place : Place) (next : Option Bytes) (old new : Shown) (fault : Fault) → IsStopped second place next old fault new → IsStopped first place next old fault new
  stopped_before place next old new fault (inl memory) = inl memory
  stopped_before place next old new fault (inr stopped) =
      inr (record {
        outside = stopped.outside;
        rose = stopped.rose;
        reported = stopped.reported;
        torn = (stopped.torn.0, (same place (file_at old.contents.files place) next stopped.torn.0).0 stopped.torn.1, stopped.torn.2);
      })

  put_before : (place : Place) (bytes : Bytes) (old new : Shown) (answer : Answer) → PutStep second place bytes old answer new → PutStep first place bytes old answer new
  put_before place bytes old new answers.Edited step = step
  put_before place bytes old new (answers.Refused fault) (inl stopped) = inl (stopped_before place (Some bytes) old new fault stopped)
  put_before place bytes old new (answers.Refused fault) (inr refused) = inr refused
  put_before place bytes old new (answers.Built report) step = step
  put_before place bytes old new (answers.NotBuilt fault) step = step

  remove_before : (place : Place) (old new : Shown) (answer : Answer) → RemoveStep second place old answer new → RemoveStep first place old answer new
  remove_before place old new answers.Edited step = step
  remove_before place old new (answers.Refused fault) (inl stopped) = inl (stopped_before place None old new fault stopped)
  remove_before place old new (answers.Refused fault) (inr refused) = inr refused
  remove_before place old new (answers.Built report) step = step
  remove_before place old new (answers.NotBuilt fault) step = step

  loss_before : (old new : Shown) (answer : Answer) → LossStep second old answer new → LossStep first old answer new
  loss_before old new answers.Edited step = step
  loss_before old new (answers.Refused fault) (inl unlisted) = inl unlisted
  loss_before old new (answers.Refused fault) (inr cut) = inr (cut.0, cut_before first second (places_under old.contents.files own_place) old.contents new.contents fault same cut.1)
  loss_before old new (answers.Built report) step = step
  loss_before old new (answers.NotBuilt fault) step = step

  module _ (kinds : Kinds) (registers : Registering) where
    may_alike : (own : Files) (options : Options) (task : Task) (moment : Moment) (new : WorldState) (fault : Fault)
        → may_occur (setting_by kinds registers second) own options task moment new fault → may_occur (setting_by kinds registers first) own options task moment new fault
    may_alike own options task moment new faults.OutOfMemory may = may
    may_alike own options task moment new (faults.Device place) may = (
      may.0,
      may.1,
      elim may.2 [
        | inl exists ↦ inl exists
        | inr torn ↦ inr (torn.0, torn.1, torn.2, torn.3, (same place torn.0 torn.1 _).0 torn.4)
      ],
    )
    may_alike own options task moment new faults.HistoryNotWritten may = may
    may_alike own options task moment new other may = absurd may

    step_alike : (assumed : Guard) (observed : List Bytes) (old : State) (event : Event) (answer : Answer) (new : State)
        → Step (setting_by kinds registers second) assumed observed old event answer new → Step (setting_by kinds registers first) assumed observed old event answer new
    step_alike assumed observed old (events.Put place bytes) answer new step = (put_before place bytes (shown_in old) (shown_in new) answer step.0, step.1)
    step_alike assumed observed old (events.Remove place) answer new step = (remove_before place (shown_in old) (shown_in new) answer step.0, step.1)
    step_alike assumed observed old events.Lost answers.Edited new step = (loss_before (shown_in old) (shown_in new) answers.Edited step.0, step.1)
    step_alike assumed observed old events.Lost (answers.Refused fault) new step = (loss_before (shown_in old) (shown_in new) (answers.Refused fault) step.0, step.1)
    step_alike assumed observed old events.Lost (answers.Built report) new step = absurd step.0
    step_alike assumed observed old events.Lost (answers.NotBuilt fault) new step = absurd step.0
    step_alike assumed observed old (events.Invoke invocation) (answers.Built report) new step = record {
      plan = step.plan;
      planned = record {
        registry = step.planned.registry;
        scripts = step.planned.scripts;
        request = step.planned.request;
        asked = step.planned.asked;
        planned = step.planned.planned;
      };
      dry_run = step.dry_run;
      elsewhere = step.elsewhere;
      dry_keeps = step.dry_keeps;
      builds = builds_weaker kinds invocation.options step.plan (may_occur (setting_by kinds registers second) (own_files old.contents) invocation.options)
          (may_occur (setting_by kinds registers first) (own_files old.contents) invocation.options) (may_alike (own_files old.contents) invocation.options)
          assumed assumed (λ contents given. given) observed old.failures new.failures (world_in old) (world_in new) report.tasks step.builds;
      success = step.success;
    }
    step_alike assumed observed old (events.Invoke invocation) (answers.NotBuilt fault) new step = step
    step_alike assumed observed old (events.Invoke invocation) answers.Edited new step = absurd step
    step_alike assumed observed old (events.Invoke invocation) (answers.Refused fault) new step = absurd step

    pub leads_alike : (old : Shown) (event : Event) (answer : Answer) (new : Shown) → IsTransition (setting_by kinds registers second) old event answer new
        → IsTransition (setting_by kinds registers first) old event answer new
    leads_alike old event answer new leads remembered clear observed worth =
        let led = leads remembered clear observed worth in
        record {
          remembered = led.remembered;
          step = step_alike _ observed _ event answer _ led.step;
          exists = led.exists;
        }
