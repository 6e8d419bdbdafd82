-- The text of a report.
use Rattle.std.specs.Prelude.{ℕ, Bool, true, ◌==◌, List, [], ◌∷◌, ◌++◌, if◌then◌else◌, codes, decimal}
use Rattle.std.specs.List.{flat_map, count_by, join_by}
use Rattle.gb_report.specs.declared.report.Outcome.{Outcome}
use Rattle.gb_report.specs.declared.report.Outcome.TheVariants as outcomes
use Rattle.gb_report.specs.declared.report.TaskReport.{TaskReport}
use Rattle.gb_report.specs.declared.report.Report.{Report}
use Rattle.gb_report.specs.Fault.{fault_text}
use Rattle.gb_report.specs.Outcome.{is_started, is_actionable, is_successful, counts_as_executed}
use Rattle.gb_report.specs.Outcome.{counts_as_up_to_date}

-- a text and a line feed
abbrev pub line : List ℕ → List ℕ
line text = text ++ 10 ∷ []

-- the outcome label after the path of a started task
abbrev pub label : Outcome → List ℕ
label outcomes.Executed = []
label outcomes.UpToDate = codes " UP-TO-DATE"
label outcomes.Skipped = codes " SKIPPED"
label outcomes.NoSource = codes " NO-SOURCE"
label (outcomes.Failed fault) = codes " FAILED"
label outcomes.NotRun = []

-- the head line of a started task, then what it printed
abbrev pub task_text : TaskReport → List ℕ
task_text task =
    if is_started task.outcome
    then line (codes "> Task " ++ task.path ++ label task.outcome) ++ flat_map line task.lines else []

-- the line of a failed task
abbrev pub failure_text : List ℕ → Outcome → List ℕ
failure_text path outcomes.Executed = []
failure_text path outcomes.UpToDate = []
failure_text path outcomes.Skipped = []
failure_text path outcomes.NoSource = []
failure_text path (outcomes.Failed fault) = line (codes "FAILED " ++ path ++ codes ": " ++ fault_text fault)
failure_text path outcomes.NotRun = []

-- the line of a listener that refused
abbrev pub refusal_text : Bool → List ℕ
refusal_text refused = if refused then line (codes "FAILED listener: 91 listener refused") else []

-- the line that reports whether the build was successful
abbrev pub result_text : Bool → List ℕ
result_text successful = line (if successful then codes "BUILD SUCCESSFUL" else codes "BUILD FAILED")

-- a count and its word, where it is not zero
abbrev pub part : ℕ → List ℕ → List (List ℕ)
part count word = if count == 0 then [] else (decimal count ++ codes " " ++ word) ∷ []

-- the parts that are not zero, with a comma between
abbrev pub parts : ℕ → ℕ → List ℕ
parts executed up_to_date =
    join_by (λ text. text) (codes ", ")
    (part executed (codes "executed") ++ part up_to_date (codes "up-to-date"))

-- how many tasks are actionable
abbrev pub actionable : ℕ → List ℕ
actionable count =
    decimal count ++ (if count == 1 then codes " actionable task: " else codes " actionable tasks: ")

-- the last line, if some task is actionable
abbrev pub summary : List TaskReport → List ℕ
summary tasks =
    if count_by is_actionable tasks == 0 then []
    else line (actionable (count_by is_actionable tasks)
    ++ parts (count_by counts_as_executed tasks) (count_by counts_as_up_to_date tasks))

-- the text of a dry run: no task runs, and none fails
abbrev pub dry_text : List TaskReport → List ℕ
dry_text tasks = flat_map (λ task. line (task.path ++ codes " SKIPPED")) tasks ++ result_text true

-- the text of a run: the tasks, the failures, the result and the counts
abbrev pub run_text : Report → List ℕ
run_text report =
    flat_map task_text report.tasks
    ++ flat_map (λ task. failure_text task.path task.outcome) report.tasks
    ++ refusal_text report.listener_refused
    ++ result_text (is_successful report)
    ++ summary report.tasks

-- what is printed of a report
abbrev pub report_text : Report → List ℕ
report_text report = if report.dry_run then dry_text report.tasks else run_text report
