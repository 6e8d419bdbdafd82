-- The colours of predictions in a graph.
use Rattle.std.specs.Prelude.{List, [], ◌∷◌, Option, Some, None, bytes_eq, if◌then◌else◌, string_bytes}
use Rattle.gb_picture.specs.declared.graph.Node.{Node}
use Rattle.gb_picture.specs.declared.graph.Tint.{Tint}
use Rattle.gb_picture.specs.declared.graph.Tint.TheVariants as tints
use Rattle.gb_plan.specs.Task.{Path}
use Rattle.gb_predict.specs.declared.predicted_outcome.PredictedOutcome.{PredictedOutcome}
use Rattle.gb_predict.specs.declared.predicted_outcome.PredictedOutcome.TheVariants as comings
use Rattle.gb_predict.specs.declared.predicted_outcome.Prediction.{Prediction}

-- the colour of an outcome; none if it cannot be predicted
abbrev pub tint_of_coming : PredictedOutcome → Tint
tint_of_coming comings.Skips = tints.Idle
tint_of_coming comings.HasNoActions = tints.Idle
tint_of_coming (comings.HasNoSource removes) = tints.Idle
tint_of_coming (comings.CannotRead fault) = tints.Plain
tint_of_coming comings.UpToDate = tints.Done
tint_of_coming comings.HasGrown = tints.Runs
tint_of_coming (comings.Runs by_changes reasons) = tints.Runs

-- none if the task does not start, and another one if a task before it may change its outcome
abbrev pub marked_tint : Option Path → Option Path → Tint → Tint
marked_tint (Some needs) after tint = tints.Plain
marked_tint None (Some after) tint = tints.Open
marked_tint None None tint = tint

-- the colour of a prediction
abbrev pub tint_of : Prediction → Tint
tint_of prediction = marked_tint prediction.kept_by prediction.after (tint_of_coming prediction.coming)

-- a node with the colour of a prediction, if it is for a task of its name
abbrev pub tinted : Node → Prediction → Node
tinted node prediction =
    if bytes_eq (string_bytes node.name) prediction.path then record node { tint = tint_of prediction }
    else node

-- the same for the first of these
abbrev pub first_tinted : Node → List Prediction → Node
first_tinted node [] = node
first_tinted node (prediction ∷ predicted) = tinted node prediction

abbrev pub other_predictions : List Prediction → List Prediction
other_predictions [] = []
other_predictions (prediction ∷ predicted) = predicted

-- Each node with the colour of the prediction in its place, if that is for a task of its name. The nodes are
-- otherwise the same.
abbrev pub with_tints : List Node → List Prediction → List Node
with_tints [] predicted = []
with_tints (node ∷ nodes) predicted =
    first_tinted node predicted ∷ with_tints nodes (other_predictions predicted)
