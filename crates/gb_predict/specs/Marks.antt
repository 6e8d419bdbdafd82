-- Which earlier task may change what a task finds, and which one keeps it from starting.
use Rattle.std.specs.Prelude.{◌≡◌, ◌||◌, ◌&&◌, ◌++◌, ◌∷◌, [], Bool, true, map}
use Rattle.std.specs.Prelude.{false, List, Option, None, Some, if◌then◌else◌, bytes_eq, find, is_some}
use Rattle.std.specs.Prelude.{option_map, ⊤}
use Rattle.std.specs.List.{zip}
use Rattle.gb_plan.specs.Graph.{Plan, reads_output_of}
use Rattle.gb_plan.specs.Task.{Path}
use Rattle.gb_plan.specs.declared.plan.Planned.{Planned}
use Rattle.gb_plan.specs.declared.task.TaskDeclaration.{TaskDeclaration as Task}
use Rattle.gb_predict.specs.declared.predicted_outcome.PredictedOutcome.{PredictedOutcome}
use Rattle.gb_predict.specs.declared.predicted_outcome.PredictedOutcome.TheVariants as comings
use Rattle.gb_predict.specs.declared.predicted_outcome.Prediction.{Prediction}

-- the prediction depends on files
abbrev pub reads_files : PredictedOutcome → Bool
reads_files comings.Skips = false
reads_files comings.HasNoActions = false
reads_files other = true

-- its execution writes or removes files at its outputs
abbrev pub changes_files : PredictedOutcome → Bool
changes_files (comings.HasNoSource removes) = removes
changes_files comings.HasGrown = true
changes_files (comings.Runs by_changes reasons) = true
changes_files other = false

-- it changes files, or reads an output of one that may
abbrev pub may_change : Prediction → Bool
may_change reported = changes_files reported.coming || is_some reported.after

-- an earlier task may change, and the task reads an output of it
abbrev pub changes_for : Task → Planned × Prediction → Bool
changes_for task pair = may_change pair.1 && reads_output_of task pair.0.task

-- the first of these that may change what the task reads, if its prediction depends on files
abbrev pub mark : List (Planned × Prediction) → Task → PredictedOutcome → Option Path
mark before task coming =
    if reads_files coming
    then option_map (λ pair. pair.0.task.path)
    (find (changes_for task) before)
    else None

-- its execution fails before it runs
abbrev pub is_unread : PredictedOutcome → Bool
is_unread (comings.CannotRead fault) = true
is_unread other = false

-- the task that fails, if no task that needs this one starts
abbrev pub culprit : Prediction → Option Path
culprit reported = if is_unread reported.coming then Some reported.path else reported.kept_by

abbrev pub or_else : Option Path → Option Path → Option Path
or_else (Some path) other = Some path
or_else None other = other

-- the culprit of the task at a path, if it has one
abbrev pub culprit_at : List Prediction → Path → Option Path
culprit_at [] path = None
culprit_at (reported ∷ later) path =
    or_else (culprit_at later path) (if bytes_eq reported.path path then culprit reported else None)

-- the first culprit of tasks that are needed
abbrev pub first_culprit : List Prediction → List Path → Option Path
first_culprit reported [] = None
first_culprit reported (path ∷ paths) = or_else (culprit_at reported path) (first_culprit reported paths)

-- the task that keeps this one from starting, given the earlier ones
abbrev pub keeper : Task → List Prediction → Option Path
keeper task reported = first_culprit reported task.needs

-- each of these tasks has the marks that those before it give it
abbrev pub AreMarkedAfter : List (Planned × Prediction) → List (Planned × Prediction) → Type 0
AreMarkedAfter before [] = ⊤
AreMarkedAfter before (pair ∷ pairs) =
    (pair.1.after ≡ mark before pair.0.task pair.1.coming)
    × (pair.1.kept_by ≡ keeper pair.0.task (map (λ earlier. earlier.1) before))
    × AreMarkedAfter (before ++ pair ∷ []) pairs

abbrev pub AreMarked : Plan → List Prediction → Type 0
AreMarked plan reported = AreMarkedAfter [] (zip plan reported)
