-- What is printed for a build, and when.
use Rattle.std.specs.Prelude.{ℕ, ◌≡◌, Bool, true, false, List, [], ◌++◌, Option, if◌then◌else◌}
use Rattle.std.specs.Io.KnownBytes.{Appends}
use Rattle.std.specs.List.{flat_map}
use Rattle.gb_report.specs.Outcome.{is_successful}
use Rattle.gb_report.specs.Report.{dry_text, failure_text, refusal_text, report_text}
use Rattle.gb_report.specs.Report.{result_text, summary, task_text}
use Rattle.gb_report.specs.declared.report.Report.{Report}

-- ---- What a printer does

-- How much of a text was printed: all of it, if everything that the printer was given is printed; otherwise a
-- beginning of it, and nothing if something before it was not printed.
pub record Prints {P : Type 0} (contents : P → Option (List ℕ)) (whole : P → Bool) (text : List ℕ)
    (old new : P) : Type 0 where
  pub done : List ℕ
  pub left : List ℕ
  pub begins : text ≡ done ++ left
  pub appends : Appends (contents old) (contents new) done
  pub all : whole new ≡ true → (whole old ≡ true) × (left ≡ [])
  pub no_more : whole old ≡ false → done ≡ []

-- ---- What is printed for a report

-- the parts of its tasks, in the order of execution; in a dry run nothing is executed
abbrev pub parts_text : Report → List ℕ
parts_text report = if report.dry_run then [] else flat_map task_text report.tasks

-- the text printed after them
abbrev pub rest_text : Report → List ℕ
rest_text report =
    if report.dry_run then dry_text report.tasks
    else (flat_map (λ task. failure_text task.path task.outcome) report.tasks
    ++ refusal_text report.listener_refused
    ++ result_text (is_successful report)
    ++ summary report.tasks)

-- The text of a report is these two, one after the other.
abbrev pub PartsComeFirst : Type 0
PartsComeFirst = (report : Report) → report_text report ≡ parts_text report ++ rest_text report
