-- The calls that the execution of a task makes, over any folder, by its outcome.
use Rattle.std.specs.Prelude.{◌≡◌, ◌⊎◌, true, List, Option, Ok, Err, is_some}
use Rattle.gb_action.specs.Meanings.{Meanings}
use Rattle.gb_folder.specs.Calls.{Requests, no_change, Device}
use Rattle.gb_folder.specs.Files.{is_empty}
use Rattle.gb_history.specs.Record.{Record}
use Rattle.gb_plan.specs.Ready.{Rows}
use Rattle.gb_plan.specs.Task.{Text}
use Rattle.gb_plan.specs.declared.task.TaskDeclaration.{TaskDeclaration as Task}
use Rattle.gb_report.specs.declared.report.Options.{Options}
use Rattle.gb_report.specs.declared.report.Outcome.{Outcome}
use Rattle.gb_report.specs.declared.report.Outcome.TheVariants as outcomes
use Rattle.gb_task.specs.Current.{IsReportedCurrent}
use Rattle.gb_task.specs.Ran.{OnlyRead, WasCleared, WasRun}

module _ {F S : Type 0} (device : Device F)
    (meanings : Meanings S) (rows : Rows S) (options : Options) where
  -- The execution of a task, from the state of the folder in which it begins to that in which it ends, by its
  -- outcome, its lines and the record that was read of it. A task that was not run makes no call. A task that
  -- was skipped or is up to date requests no change, and a task that is up to date was found so on what calls
  -- returned since an earlier state, without a change between. A task without source was cleared. A task that
  -- was executed was run, if it has actions. A task that failed only read, or was cleared or run up to the
  -- call that failed. What was cleared or run goes by what calls returned since its execution began.
  abbrev pub ExecutionRequests : Task → Option Record → Outcome → List Text → F → F → F → Type 0
  ExecutionRequests task last outcomes.NotRun lines since old new = new ≡ old
  ExecutionRequests task last outcomes.Skipped lines since old new = Requests device
      no_change old new
  ExecutionRequests task last outcomes.UpToDate lines since old new =
      Requests device no_change old new
      × IsReportedCurrent device options task last since new outcomes.UpToDate
  ExecutionRequests task last outcomes.NoSource lines since old new =
      WasCleared device task (is_some last) lines (Ok tt) old new
  ExecutionRequests task last outcomes.Executed lines since old new =
      ((is_empty task.actions ≡ true) × Requests device no_change old new)
      ⊎ WasRun device meanings rows task options last lines (Ok tt) old new
  ExecutionRequests task last (outcomes.Failed fault) lines since old new =
      OnlyRead device lines (Err fault) old new
      ⊎ WasCleared device task (is_some last) lines (Err fault) old new
      ⊎ WasRun device meanings rows task options last lines (Err fault) old new

-- The state of the last change after an execution: that before it, where its outcome asks for no change, or
-- else that in which it ended.
abbrev pub since_after : {F : Type 0} → Outcome → F → F → F
since_after outcomes.NotRun since new = since
since_after outcomes.Skipped since new = since
since_after outcomes.UpToDate since new = since
since_after outcome since new = new
