-- The outcome of a task, and how it counts.
use Rattle.std.specs.Prelude.{Bool, true, false, not, ◌&&◌, ◌||◌}
use Rattle.std.specs.List.{list_any}
use Rattle.gb_report.specs.declared.report.Outcome.{Outcome}
use Rattle.gb_report.specs.declared.report.Outcome.TheVariants as outcomes
use Rattle.gb_report.specs.declared.report.TaskReport.{TaskReport}
use Rattle.gb_report.specs.declared.report.Report.{Report}

-- its actions ran
abbrev pub is_executed : Outcome → Bool
is_executed outcomes.Executed = true
is_executed outcomes.UpToDate = false
is_executed outcomes.Skipped = false
is_executed outcomes.NoSource = false
is_executed (outcomes.Failed fault) = false
is_executed outcomes.NotRun = false

-- nothing had to be done
abbrev pub is_up_to_date : Outcome → Bool
is_up_to_date outcomes.Executed = false
is_up_to_date outcomes.UpToDate = true
is_up_to_date outcomes.Skipped = false
is_up_to_date outcomes.NoSource = false
is_up_to_date (outcomes.Failed fault) = false
is_up_to_date outcomes.NotRun = false

-- it failed, with whatever fault
abbrev pub is_failed : Outcome → Bool
is_failed outcomes.Executed = false
is_failed outcomes.UpToDate = false
is_failed outcomes.Skipped = false
is_failed outcomes.NoSource = false
is_failed (outcomes.Failed fault) = true
is_failed outcomes.NotRun = false

-- the task started: every outcome but `NotRun`
abbrev pub is_started : Outcome → Bool
is_started outcomes.Executed = true
is_started outcomes.UpToDate = true
is_started outcomes.Skipped = true
is_started outcomes.NoSource = true
is_started (outcomes.Failed fault) = true
is_started outcomes.NotRun = false

-- a task with an action that ran, to completion or not
abbrev pub counts_as_executed : TaskReport → Bool
counts_as_executed task = task.has_actions && (is_executed task.outcome || is_failed task.outcome)

-- a task with an action that did not need to run
abbrev pub counts_as_up_to_date : TaskReport → Bool
counts_as_up_to_date task = task.has_actions && is_up_to_date task.outcome

-- a task that the last line counts
abbrev pub is_actionable : TaskReport → Bool
is_actionable task = counts_as_executed task || counts_as_up_to_date task

-- no task failed, and no listener refused
abbrev pub is_successful : Report → Bool
is_successful report =
    not report.listener_refused && not (list_any (λ task. is_failed task.outcome) report.tasks)
