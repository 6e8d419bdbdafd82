-- The line of a task: the outcome of executing it now, and the reasons for an execution.
use Rattle.std.specs.Prelude.{ℕ, ◌==◌, Bool, List, [], ◌∷◌, ◌++◌, Option, Some, None, if◌then◌else◌}
use Rattle.std.specs.Prelude.{codes, decimal, length}
use Rattle.gb_predict.specs.declared.predicted_outcome.PredictedOutcome.{PredictedOutcome}
use Rattle.gb_predict.specs.declared.predicted_outcome.PredictedOutcome.TheVariants as comings
use Rattle.gb_predict.specs.declared.predicted_outcome.Prediction.{Prediction}
use Rattle.gb_plan.specs.Task.{Path}
use Rattle.gb_reason.specs.Text.{reason_text}
use Rattle.gb_reason.specs.declared.reason.Reason.{Reason}
use Rattle.gb_report.specs.Fault.{fault_text}
use Rattle.gb_report.specs.Report.{line}

-- how many more reasons there are, if any
abbrev pub more_text : ℕ → List ℕ
more_text count = if count == 0 then [] else codes ", and " ++ decimal count ++ codes " more"

-- the first reason, and how many more there are
abbrev pub reasons_text : List Reason → List ℕ
reasons_text [] = []
reasons_text (first ∷ others) = reason_text first ++ more_text (length others)

-- that a task is executed, incrementally or in full
abbrev pub way : Bool → List ℕ
way by_changes = if by_changes then codes " runs by changes: " else codes " runs: "

abbrev pub runs_text : Bool → List Reason → List ℕ
runs_text by_changes reasons = way by_changes ++ reasons_text reasons

-- what is printed after the path of a task
abbrev pub coming_text : PredictedOutcome → List ℕ
coming_text comings.Skips = codes " SKIPPED: onlyIf is false"
coming_text comings.HasNoActions = codes " has no actions"
coming_text (comings.HasNoSource removes) = codes " NO-SOURCE"
coming_text (comings.CannotRead fault) = codes " cannot be read: " ++ fault_text fault
coming_text comings.UpToDate = codes " UP-TO-DATE"
coming_text comings.HasGrown = codes " runs: outputs are too large or too many"
coming_text (comings.Runs by_changes reasons) = runs_text by_changes reasons.items

-- the task that keeps it from starting, or else the one whose execution may change its outcome
abbrev pub mark_text : Option Path → Option Path → List ℕ
mark_text (Some path) after = codes " (needs " ++ path ++ codes ")"
mark_text None (Some path) = codes " (after " ++ path ++ codes ")"
mark_text None None = []

abbrev pub line_text : Prediction → List ℕ
line_text reported = line (reported.path ++ coming_text reported.coming ++ mark_text reported.kept_by
    reported.after)
