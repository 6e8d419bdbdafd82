-- A task whose need fails, its finalizer, and a task after both.
use Rattle.std.specs.Prelude.{◌≡◌, true, false, List, [], ◌∷◌, codes, refl}
use Rattle.gb_report.specs.declared.fault.Fault.TheVariants as faults
use Rattle.gb_report.specs.declared.report.Outcome.{Outcome}
use Rattle.gb_report.specs.declared.report.Outcome.TheVariants as outcomes
use Rattle.gb_report.specs.declared.report.Heard.TheVariants as heard
use Rattle.gb_report.specs.declared.report.TaskReport.{TaskReport}
use Rattle.gb_report.specs.declared.report.Report.{Report}
use Rattle.gb_core.specs.declared.value.Value.TheVariants as values
use Rattle.gb_plan.specs.Task.{Text}
use Rattle.gb_plan.specs.declared.task.TaskDeclaration.{TaskDeclaration as Task}
use Rattle.gb_plan.specs.Graph.{Plan}
pub use Rattle.gb_plan.proofs.RowTasks.{action, asks, bad, fin, p, q, registry}
use Rattle.gb_semantics.specs.Execution.{heard_of, dry_reports}
use Rattle.std.specs.Fmt.{digits}
use Rattle.gb_report.specs.Report.{report_text}

abbrev pub plan : Plan
plan =
    record { task = bad; word = 0; is_selected = false }
    ∷ record { task = fin; word = 0; is_selected = false }
    ∷ record { task = q; word = 0; is_selected = true }
    ∷ record { task = p; word = 1; is_selected = true } ∷ []

abbrev pub reported : Task → Outcome → List Text → TaskReport
reported task outcome lines = record { path = task.path; outcome = outcome; has_actions = true; lines = lines }

abbrev pub report : Report
report = record {
  tasks = reported bad (outcomes.Failed (faults.ActionFailed (codes "boom"))) [] ∷ reported fin outcomes.Executed (codes "fin" ∷ [])
      ∷ reported q outcomes.NotRun [] ∷ reported p outcomes.NotRun [] ∷ [];
  dry_run = false;
  listener_refused = false;
}

pub heard_by_all : heard_of false report.tasks ≡ heard.Start (codes ":bad") ∷ heard.End (codes ":bad") (outcomes.Failed (faults.ActionFailed (codes "boom")))
    ∷ heard.Start (codes ":fin") ∷ heard.End (codes ":fin") outcomes.Executed ∷ []
heard_by_all = refl

pub printed : report_text report ≡ codes "> Task :bad FAILED\n> Task :fin\nfin\nFAILED :bad: 42 boom\nBUILD FAILED\n2 actionable tasks: 2 executed\n"
unfolding digits
printed = refl

pub printed_dry : report_text (record { tasks = dry_reports plan; dry_run = true; listener_refused = false })
    ≡ codes ":bad SKIPPED\n:fin SKIPPED\n:q SKIPPED\n:p SKIPPED\nBUILD SUCCESSFUL\n"
printed_dry = refl
