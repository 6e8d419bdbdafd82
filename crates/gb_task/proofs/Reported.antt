-- A report, part by part.
use Rattle.std.specs.Prelude.{◌≡◌, Bool, List}
use Rattle.gb_plan.specs.Task.{Path, Text}
use Rattle.gb_report.specs.declared.report.Outcome.{Outcome}
use Rattle.gb_report.specs.declared.report.TaskReport.{TaskReport}

-- reports with the same parts are one
pub same_report : (path path' : Path) (outcome outcome' : Outcome) (acts acts' : Bool) (lines lines' : List Text) → path ≡ path' → outcome ≡ outcome' → acts ≡ acts'
    → lines ≡ lines' → (let r : TaskReport = record { path = path; outcome = outcome; has_actions = acts; lines = lines } in r)
    ≡ (let r : TaskReport = record { path = path'; outcome = outcome'; has_actions = acts'; lines = lines' } in r)
same_report path path' outcome outcome' acts acts' lines lines' p o a l = λ i. record { path = p i; outcome = o i; has_actions = a i; lines = l i }
