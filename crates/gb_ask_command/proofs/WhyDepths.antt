-- The outcomes of tasks as JSON are shallow, so that they read back.
use Rattle.std.proofs.Common.{◌≤◌, List, Option, Some, None, arith}
use Rattle.serde_json.specs.Data.{depth, items_depth}
use Rattle.serde_json.specs.Read.{max_depth}
use Rattle.serde_json.specs.View.{items_of}
use Rattle.gb_predict.specs.declared.predicted_outcome.PredictedOutcome.{PredictedOutcome}
use Rattle.gb_predict.specs.declared.predicted_outcome.PredictedOutcome.TheVariants as comings
use Rattle.gb_predict.specs.declared.predicted_outcome.Prediction.{Prediction}
use Rattle.gb_plan.specs.Task.{Path}
use Rattle.gb_query.proofs.Depths.{items_low}
use Rattle.gb_ask_command.specs.WhyJson.{reason_data, reasons_data, task_data, why_data, why_object}

reasons_low : (coming : PredictedOutcome) → items_depth (items_of (reasons_data coming)) ≤ 0
reasons_low comings.Skips = omega arith
reasons_low comings.HasNoActions = omega arith
reasons_low (comings.HasNoSource removes) = omega arith
reasons_low (comings.CannotRead fault) = omega arith
reasons_low comings.UpToDate = omega arith
reasons_low comings.HasGrown = omega arith
reasons_low (comings.Runs by_changes reasons) = items_low reason_data 0 (λ reason. omega arith) reasons.items

task_low : (task : Option Path) → depth (task_data task) ≤ 0
task_low (Some path) = omega arith
task_low None = omega arith

object_low : (reported : Prediction) → depth (why_object reported) ≤ 2
object_low reported =
    let reasons = reasons_low reported.coming in
    let needs = task_low reported.kept_by in
    let after = task_low reported.after in
    omega arith

pub why_shallow : (reported : List Prediction) → depth (why_data reported) ≤ max_depth
why_shallow reported = let low = items_low why_object 2 object_low reported in omega arith
