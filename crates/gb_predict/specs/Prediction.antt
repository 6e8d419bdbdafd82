-- The outcome of a task on a folder as it is, in the terms of builds.
use Rattle.std.specs.Prelude.{ℕ, ◌≡◌, ◌≢◌, Bool, false, true, not, List, []}
use Rattle.std.specs.Prelude.{◌∷◌, map, Option, Some, None, Result, Ok, Err, ⊤}
use Rattle.std.specs.List.{AllZip, flat_map, zip}
use Rattle.gb_task.specs.Executions.{is_by_changes}
use Rattle.gb_folder.specs.Files.{Contents, is_empty}
use Rattle.gb_history.specs.Record.{Record}
use Rattle.gb_history.specs.declared.decide.Decision.{Decision}
use Rattle.gb_history.specs.declared.decide.Decision.TheVariants as decisions
use Rattle.gb_history.specs.declared.decide.Present.{Present}
use Rattle.gb_label.specs.Deciding.{IsDecided, IsPresentOf}
use Rattle.gb_label.specs.Looking.{IsHindered}
use Rattle.gb_semantics.specs.Kinds.{Kinds}
use Rattle.gb_semantics.specs.Label.{HasNoActions, HasNoSource, Skips, early_case}
use Rattle.gb_semantics.specs.Memory.{output_files}
use Rattle.gb_semantics.specs.Tree.{trees_of}
use Rattle.gb_plan.specs.Graph.{Plan}
use Rattle.gb_plan.specs.declared.task.TaskDeclaration.{TaskDeclaration as Task}
use Rattle.gb_reason.specs.Reasons.{reasons_of}
use Rattle.gb_reason.specs.declared.reason.Reason.{Reason}
use Rattle.gb_report.specs.declared.fault.Fault.{Fault}
use Rattle.gb_report.specs.declared.fault.Fault.TheVariants as faults
use Rattle.gb_report.specs.declared.report.Options.{Options}
use Rattle.gb_label.specs.Reading.{digests_in, print_faults, recorded_of}
use Rattle.gb_predict.specs.declared.predicted_outcome.PredictedOutcome.{PredictedOutcome}
use Rattle.gb_predict.specs.declared.predicted_outcome.PredictedOutcome.TheVariants as comings
use Rattle.gb_predict.specs.declared.predicted_outcome.Prediction.{Prediction}

-- the reasons are those of what the task has now
abbrev pub AreReasons : Options → Task → Contents → Option Record → List Reason → Type 0
AreReasons options task folder old reasons =
    (present : Present) → IsPresentOf options task (digests_in (trees_of task folder.files))
    (map (recorded_of folder.files) task.outputs) present → reasons ≡ reasons_of old present

-- The decision is that the task runs, incrementally or in full, and these are the reasons.
pub record IsRun (kinds : Kinds) (options : Options) (task : Task) (folder : Contents)
    (old : Option Record) (goes_on : Bool) (reported : List Reason) : Type 0 where
  pub decision : Decision
  pub decided : IsDecided options task folder old decision
  pub due : decision ≢ decisions.UpToDate
  pub by_changes : is_by_changes kinds task decision ≡ goes_on
  pub reasons : AreReasons options task folder old reported

-- What is found of a task that has a source.
abbrev pub IsFound : Kinds → Options → Task → Contents → Option Record → PredictedOutcome → Type 0
IsFound kinds options task folder old comings.UpToDate = IsDecided options task folder old decisions.UpToDate
IsFound kinds options task folder old comings.HasGrown =
    IsDecided options task folder old decisions.Full
    × (is_empty (flat_map (print_faults folder) task.outputs) ≡ false)
IsFound kinds options task folder old (comings.Runs by_changes reasons) =
    IsRun kinds options task folder old by_changes reasons.items
IsFound kinds options task folder old other = ⊥

-- It is the outcome of the task, which has this record, on the folder; the machine may fail between these
-- counts.
abbrev pub IsPredictedOf : Kinds → Options → Task → Contents → Option Record → ℕ → ℕ → PredictedOutcome
    → Type 0
IsPredictedOf kinds options task folder old before after comings.Skips = early_case task folder ≡ Some Skips
IsPredictedOf kinds options task folder old before after comings.HasNoActions =
    early_case task folder ≡ Some HasNoActions
IsPredictedOf kinds options task folder old before after (comings.HasNoSource removes) =
    (early_case task folder ≡ Some HasNoSource)
    × (removes ≡ not (is_empty (output_files task folder.files)))
IsPredictedOf kinds options task folder old before after (comings.CannotRead fault) =
    IsHindered task folder before after fault
IsPredictedOf kinds options task folder old before after other =
    (early_case task folder ≡ None) × IsFound kinds options task folder old other

-- it runs in full for this reason alone
abbrev pub RunsFor : Reason → PredictedOutcome → Type 0
RunsFor reason (comings.Runs by_changes reasons) = (by_changes ≡ false) × (reasons.items ≡ reason ∷ [])
RunsFor reason other = ⊥

-- the fault is the machine's
abbrev pub is_of_machine : Fault → Bool
is_of_machine faults.OutOfMemory = true
is_of_machine (faults.Device place) = true
is_of_machine other = false

-- there is a reason if the task runs for reasons
abbrev pub IsReasoned : PredictedOutcome → Type 0
IsReasoned (comings.Runs by_changes reasons) = reasons.items ≢ []
IsReasoned other = ⊤

-- the prediction for a task, from the result of reading it
abbrev pub reported_of : Result PredictedOutcome Fault → PredictedOutcome
reported_of (Ok coming) = coming
reported_of (Err fault) = comings.CannotRead fault

-- Each of these tasks, with what was read of its record, has this prediction.
abbrev pub ArePredictedOf : Kinds → Options → Contents → ℕ → ℕ → Plan → List (Option Record) → List Prediction
    → Type 0
ArePredictedOf kinds options folder before after plan records reported =
    AllZip (λ pair one. IsPredictedOf kinds options pair.0.task folder pair.1 before after one.coming)
    (zip plan records) reported
