-- The reports of a build's tasks.
use Rattle.std.specs.Prelude.{◌≡◌, not, []}
use Rattle.gb_folder.specs.Files.{is_empty}
use Rattle.gb_plan.specs.declared.plan.Planned.{Planned}
use Rattle.gb_report.specs.declared.report.Outcome.{Outcome}
use Rattle.gb_report.specs.declared.report.TaskReport.{TaskReport}

-- the report is of the task
pub record IsOf (planned : Planned) (report : TaskReport) : Type 0 where
  pub path : report.path ≡ planned.task.path
  pub has_actions : report.has_actions ≡ not (is_empty planned.task.actions)

-- a report with this outcome, without a line
abbrev pub report_with : Outcome → Planned → TaskReport
report_with outcome planned = record {
  path = planned.task.path;
  outcome = outcome;
  has_actions = not (is_empty planned.task.actions);
  lines = [];
}
