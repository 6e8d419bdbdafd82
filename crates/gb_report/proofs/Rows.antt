-- Worked rows of the definitions.
use Rattle.std.proofs.Common.{◌≡◌, ℕ, true, false, List, [], ◌∷◌, refl}
use Rattle.std.specs.Prelude.{codes}
use Rattle.std.specs.Fmt.{digits}
use Rattle.std.specs.List.{flat_map}
use Rattle.std.specs.Str.{chars}
use Rattle.gb_report.specs.declared.fault.Fault.TheVariants as faults
use Rattle.gb_report.specs.declared.fault.Limited.TheVariants as limited
use Rattle.gb_report.specs.declared.report.Outcome.{Outcome}
use Rattle.gb_report.specs.declared.report.Outcome.TheVariants as outcomes
use Rattle.gb_report.specs.declared.report.TaskReport.{TaskReport}
use Rattle.gb_report.specs.declared.report.Report.{Report}
use Rattle.gb_report.specs.Fault.{fault_text, shown}
use Rattle.gb_report.specs.Report.{line, report_text}

-- the report of a task with an action
abbrev ran : List ℕ → Outcome → List (List ℕ) → TaskReport
ran path outcome lines = record { path = path; outcome = outcome; has_actions = true; lines = lines }

-- the report of a build of these tasks
abbrev build_of : List TaskReport → Report
build_of tasks = record { tasks = tasks; dry_run = false; listener_refused = false }

-- the lines of a text
abbrev text_of : List (List ℕ) → List ℕ
text_of lines = flat_map line lines

executed : report_text (build_of (ran (codes ":hi") outcomes.Executed (codes "2" ∷ codes "1" ∷ codes "3" ∷ codes "4" ∷ []) ∷ []))
    ≡ text_of (codes "> Task :hi" ∷ codes "2" ∷ codes "1" ∷ codes "3" ∷ codes "4" ∷ codes "BUILD SUCCESSFUL" ∷ codes "1 actionable task: 1 executed" ∷ [])
unfolding digits
executed = refl

without_actions : report_text (build_of (record { path = codes ":x"; outcome = outcomes.UpToDate; has_actions = false; lines = [] } ∷ []))
    ≡ text_of (codes "> Task :x UP-TO-DATE" ∷ codes "BUILD SUCCESSFUL" ∷ [])
without_actions = refl

failed : report_text (build_of (ran (codes ":t") (outcomes.Failed (faults.ActionFailed (codes "no"))) (codes "a" ∷ []) ∷ []))
    ≡ text_of (codes "> Task :t FAILED" ∷ codes "a" ∷ codes "FAILED :t: 42 no" ∷ codes "BUILD FAILED" ∷ codes "1 actionable task: 1 executed" ∷ [])
unfolding digits
failed = refl

blocked : report_text (build_of (ran (codes ":gen") (outcomes.Failed (faults.Blocked (codes "build/a.txt"))) [] ∷ []))
    ≡ text_of (codes "> Task :gen FAILED" ∷ codes "FAILED :gen: 12 blocked build/a.txt" ∷ codes "BUILD FAILED" ∷ codes "1 actionable task: 1 executed" ∷ [])
unfolding digits
blocked = refl

two_counts : report_text (build_of (ran (codes ":a") outcomes.UpToDate [] ∷ ran (codes ":b") outcomes.Executed [] ∷ ran (codes ":c") outcomes.NotRun [] ∷ []))
    ≡ text_of (codes "> Task :a UP-TO-DATE" ∷ codes "> Task :b" ∷ codes "BUILD SUCCESSFUL" ∷ codes "2 actionable tasks: 1 executed, 1 up-to-date" ∷ [])
unfolding digits
two_counts = refl

refused : report_text (record (build_of (ran (codes ":a") outcomes.UpToDate [] ∷ [])) { listener_refused = true })
    ≡ text_of (codes "> Task :a UP-TO-DATE" ∷ codes "FAILED listener: 91 listener refused" ∷ codes "BUILD FAILED" ∷ codes "1 actionable task: 1 up-to-date" ∷ [])
unfolding digits
refused = refl

dry : report_text (record (build_of (ran (codes ":a") outcomes.Skipped [] ∷ ran (codes ":b") outcomes.Skipped [] ∷ [])) { dry_run = true })
    ≡ text_of (codes ":a SKIPPED" ∷ codes ":b SKIPPED" ∷ codes "BUILD SUCCESSFUL" ∷ [])
dry = refl

no_tasks : fault_text faults.NoTasks ≡ codes "64 no tasks"
no_tasks = refl

not_found : fault_text (faults.TaskNotFound (codes "y")) ≡ codes "52 task not found y"
unfolding chars lib.Utf8.encode
not_found = refl

own_state : fault_text (faults.OwnState (codes ".gb/h")) ≡ codes "94 own state .gb/h"
own_state = refl

syntax_at : fault_text (faults.Syntax (codes "build.gb") 1) ≡ codes "20 syntax build.gb:1"
unfolding digits
syntax_at = refl

bad_line : fault_text (faults.BadLine 3) ≡ codes "95 bad line 3"
unfolding digits
bad_line = refl

control_character : shown (97 ∷ 10 ∷ 127 ∷ []) ≡ codes "a??"
unfolding chars lib.Utf8.encode
control_character = refl

-- the texts of faults of scripts and plans
circular : fault_text (faults.Circular (codes ":#a" ∷ codes ":lib#b" ∷ [])) ≡ codes "30 circular :#a, :lib#b"
circular = refl

no_value : fault_text (faults.NoValue (codes ":t") (codes "in")) ≡ codes "33 no value :t in"
no_value = refl

duplicate_task : fault_text (faults.DuplicateTask (codes ":a")) ≡ codes "51 duplicate task :a"
duplicate_task = refl

too_many : fault_text (faults.TooMany limited.Properties) ≡ codes "58 too many properties"
too_many = refl

unknown_output : fault_text (faults.UnknownOutput (codes ":a") (codes "o")) ≡ codes "59 unknown output :a o"
unfolding chars lib.Utf8.encode
unknown_output = refl

cycle : fault_text (faults.Cycle (codes ":b" ∷ codes ":a" ∷ [])) ≡ codes "60 cycle :b, :a"
cycle = refl

undeclared : fault_text (faults.UndeclaredDependency (codes ":c") (codes ":p") (codes "build/o"))
    ≡ codes "62 undeclared dependency :c :p build/o"
undeclared = refl

own_output : fault_text (faults.OwnOutputAsInput (codes ":a") (codes "build/o")) ≡ codes "63 own output as input :a build/o"
own_output = refl

history : fault_text faults.HistoryNotWritten ≡ codes "90 history not written"
history = refl
