-- The outcome of each task and the reasons for an execution, as JSON.
use Rattle.std.specs.Prelude.{ℕ, List, [], ◌∷◌, Option, Some, None, codes, if◌then◌else◌, map}
use Rattle.serde_json.specs.Data.{Data, array, member, no_members, null, object, string}
use Rattle.serde_json.specs.View.{items_of}
use Rattle.gb_predict.specs.declared.predicted_outcome.PredictedOutcome.{PredictedOutcome}
use Rattle.gb_predict.specs.declared.predicted_outcome.PredictedOutcome.TheVariants as comings
use Rattle.gb_predict.specs.declared.predicted_outcome.Prediction.{Prediction}
use Rattle.gb_plan.specs.Task.{Path}
use Rattle.gb_reason.specs.Text.{reason_text}
use Rattle.gb_reason.specs.declared.reason.Reason.{Reason}
use Rattle.gb_report.specs.Fault.{fault_text}

-- the outcome, in the words of its line
abbrev pub outcome_word : PredictedOutcome → List ℕ
outcome_word comings.Skips = codes "SKIPPED"
outcome_word comings.HasNoActions = codes "has no actions"
outcome_word (comings.HasNoSource removes) = codes "NO-SOURCE"
outcome_word (comings.CannotRead fault) = codes "cannot be read"
outcome_word comings.UpToDate = codes "UP-TO-DATE"
outcome_word comings.HasGrown = codes "runs"
outcome_word (comings.Runs by_changes reasons) = if by_changes then codes "runs by changes" else codes "runs"

abbrev pub reason_data : Reason → Data
reason_data reason = string (reason_text reason)

-- all reasons for the outcome, in the words of its line
abbrev pub reasons_data : PredictedOutcome → List Data
reasons_data comings.Skips = string (codes "onlyIf is false") ∷ []
reasons_data comings.HasNoActions = []
reasons_data (comings.HasNoSource removes) = []
reasons_data (comings.CannotRead fault) = string (fault_text fault) ∷ []
reasons_data comings.UpToDate = []
reasons_data comings.HasGrown = string (codes "outputs are too large or too many") ∷ []
reasons_data (comings.Runs by_changes reasons) = map reason_data reasons.items

-- a task, or null if there is none
abbrev pub task_data : Option Path → Data
task_data (Some path) = string path
task_data None = null

-- for a task with this outcome, for these reasons
abbrev pub outcome_object : List ℕ → List ℕ → Data → Data → Data → Data
outcome_object task outcome reasons needs after =
    object (member (codes "after") after
    (member (codes "needs") needs
    (member (codes "outcome") (string outcome)
    (member (codes "reasons") reasons
    (member (codes "task") (string task) no_members)))))

abbrev pub why_object : Prediction → Data
why_object reported =
    outcome_object reported.path (outcome_word reported.coming) (array (items_of (reasons_data
    reported.coming)))
    (task_data reported.kept_by) (task_data reported.after)

-- all tasks, in the order of the plan
abbrev pub why_data : List Prediction → Data
why_data reported = array (items_of (map why_object reported))
