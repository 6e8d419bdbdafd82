-- The prediction for a task, by whole contents; and that a build keeps it.
use Rattle.std.specs.Prelude.{ℕ, ◌≡◌, ◌⊎◌, Bool, true, false, not, List, [], ◌∷◌, Option, None, Some, ⊤}
use Rattle.std.specs.List.{AllByRecursion, AllZip}
use Rattle.gb_core.specs.Lists.{first_of}
use Rattle.gb_folder.specs.Files.{Bytes, Contents, is_empty}
use Rattle.gb_history.specs.Record.{Record}
use Rattle.gb_semantics.specs.Every.{always}
use Rattle.gb_semantics.specs.Kinds.{Kinds}
use Rattle.gb_semantics.specs.Label.{CannotRead, HasNoActions, HasNoSource, IsCurrent, IsIncremental, Moment}
use Rattle.gb_semantics.specs.Label.{Skips, changes_from, early_case}
use Rattle.gb_semantics.specs.Memory.{Memory, World, output_files}
use Rattle.gb_semantics.specs.TrueRecord.{outside}
use Rattle.gb_semantics.specs.Execution.{IsOfMachine, Prints, Rules, WorldState, Executions, first_moment}
use Rattle.gb_plan.specs.Graph.{IsSound, no_repeats, order}
use Rattle.gb_plan.specs.declared.plan.Planned.{Planned}
use Rattle.gb_plan.specs.declared.task.TaskDeclaration.{TaskDeclaration as Task}
use Rattle.gb_reason.specs.Reasons.{change_reasons}
use Rattle.gb_reason.specs.declared.reason.Reason.{Reason}
use Rattle.gb_report.specs.Outcome.{is_failed, is_started}
use Rattle.gb_report.specs.declared.fault.Fault.{Fault}
use Rattle.gb_report.specs.declared.report.Options.{Options}
use Rattle.gb_report.specs.declared.report.Outcome.{Outcome}
use Rattle.gb_report.specs.declared.report.Outcome.TheVariants as outcomes
use Rattle.gb_report.specs.declared.report.TaskReport.{TaskReport}
use Rattle.gb_records.specs.Said.{IsReadAt}
use Rattle.gb_task.specs.Known.{AreTrueRecords}
use Rattle.gb_predict.specs.Prediction.{ArePredictedOf, is_of_machine}
use Rattle.gb_predict.specs.Marks.{AreMarked}
use Rattle.gb_predict.specs.declared.predicted_outcome.PredictedOutcome.{PredictedOutcome}
use Rattle.gb_predict.specs.declared.predicted_outcome.PredictedOutcome.TheVariants as comings
use Rattle.gb_predict.specs.declared.predicted_outcome.Prediction.{Prediction}

-- The task runs: incrementally, and the reasons are exactly the changes that its actions get; or in full.
abbrev pub RunsThisWay : Kinds → Options → Task → World → Bool → List Reason → Type 0
RunsThisWay kinds options task world true reasons =
    (¬ IsCurrent options task world) × (since : IsIncremental kinds options task world)
    × (is_empty task.outputs ≡ false
    → reasons ≡ change_reasons (changes_from task since.entry.inputs world.folder.files))
RunsThisWay kinds options task world false reasons =
    (¬ IsCurrent options task world) × (¬ IsIncremental kinds options task world)

-- how the execution of the task ends, if it starts in this world
abbrev pub IsPredicted : Kinds → Options → Task → World → PredictedOutcome → Type 0
IsPredicted kinds options task world comings.Skips = early_case task world.folder ≡ Some Skips
IsPredicted kinds options task world comings.HasNoActions =
    early_case task world.folder ≡ Some HasNoActions
IsPredicted kinds options task world (comings.HasNoSource removes) =
    (early_case task world.folder ≡ Some HasNoSource)
    × (removes ≡ not (is_empty (output_files task world.folder.files)))
IsPredicted kinds options task world (comings.CannotRead fault) =
    (hindrances : List Fault) × (early_case task world.folder ≡ Some (CannotRead hindrances))
    × (first_of hindrances ≡ Some fault)
IsPredicted kinds options task world comings.UpToDate =
    (early_case task world.folder ≡ None) × IsCurrent options task world
IsPredicted kinds options task world comings.HasGrown =
    (early_case task world.folder ≡ None) × RunsThisWay kinds options task world false []
IsPredicted kinds options task world (comings.Runs by_changes reasons) =
    (early_case task world.folder ≡ None) × RunsThisWay kinds options task world by_changes reasons.items

-- its actions ran, to their end or up to one that failed
abbrev pub HasRun : Outcome → Type 0
HasRun outcome = (outcome ≡ outcomes.Executed) ⊎ ((fault : Fault) × (outcome ≡ outcomes.Failed fault))

-- the outcome is the predicted one
abbrev pub Fits : PredictedOutcome → Outcome → Type 0
Fits comings.Skips outcome = outcome ≡ outcomes.Skipped
Fits comings.HasNoActions outcome = (outcome ≡ outcomes.UpToDate) ⊎ (outcome ≡ outcomes.Executed)
Fits (comings.HasNoSource removes) outcome = outcome ≡ outcomes.NoSource
Fits (comings.CannotRead fault) outcome = outcome ≡ outcomes.Failed fault
Fits comings.UpToDate outcome = outcome ≡ outcomes.UpToDate
Fits comings.HasGrown outcome = HasRun outcome
Fits (comings.Runs by_changes reasons) outcome = HasRun outcome

-- the machine may fail at any time
abbrev pub MayFail : Rules → Task → Outcome → Type 0
MayFail rules task outcome = (moment : Moment) × (new : WorldState)
    × IsOfMachine rules moment task outcome new

-- A task ended as predicted, and if its actions ended, they printed what they print in the world of the
-- prediction: the lines for the same changes.
pub record IsKept (rules : Rules) (now : World) (task : Task) (coming : PredictedOutcome)
    (report : TaskReport) : Type 0 where
  pub ends : Fits coming report.outcome ⊎ MayFail rules task report.outcome
  pub prints : report.outcome ≡ outcomes.Executed
      → Prints rules.kinds rules.options task now outcomes.Executed report.lines

-- the same for each task that has no mark and starts, up to the first task that fails
abbrev pub AreKept : Rules → World → List Planned → List Prediction → List TaskReport → Type 0
AreKept rules now (planned ∷ plan) (one ∷ reported) (report ∷ reports) =
    (one.after ≡ None → is_started report.outcome ≡ true
    → IsKept rules now planned.task one.coming report)
    × (is_failed report.outcome ≡ false → AreKept rules now plan reported reports)
AreKept rules now plan reported reports = ⊤

-- A build of a sound plan keeps the predictions for its tasks in the world that it starts in.
abbrev pub PredictionsAreKept : Rules → Type 0
PredictionsAreKept rules =
    (observed : List Bytes) (old new : WorldState) (reported : List Prediction) (reports : List TaskReport)
    → no_repeats (order rules.plan) ≡ true → IsSound rules.plan
    → AllZip (λ planned one. IsPredicted rules.kinds rules.options planned.task old.world one.coming)
    rules.plan reported
    → AreMarked rules.plan reported
    → Executions rules always observed rules.plan (first_moment old) reports new
    → AreKept rules old.world rules.plan reported reports

-- ---- By the records of a folder

-- the machine did not fail during the prediction
abbrev pub IsOfFolder : PredictedOutcome → Type 0
IsOfFolder (comings.CannotRead fault) = is_of_machine fault ≡ false
IsOfFolder other = ⊤

-- the folder outside `.gb`, and what is remembered
abbrev pub world_of : Contents → Memory → World
world_of folder memory = record { folder = outside folder; memory = memory }

-- A build of the same plan keeps the predictions on a folder by the records that are read there, if they are
-- the records of a true memory and no two of the contents share a digest.
abbrev pub FolderPredictionsAreKept : Rules → Type 0
FolderPredictionsAreKept rules =
    (folder : Contents) (memory : Memory) (records : List (Option Record)) (before after : ℕ)
    (reported : List Prediction) (observed : List Bytes) (failures : ℕ) (reports : List TaskReport)
    (new : WorldState)
    → no_repeats (order rules.plan) ≡ true → IsSound rules.plan
    → AllByRecursion
    (λ planned. AreTrueRecords rules.kinds planned.task folder.files memory (world_of folder memory))
    rules.plan
    → AllZip (IsReadAt folder.files) (order rules.plan) records
    → ArePredictedOf rules.kinds rules.options folder before after rules.plan records reported
    → AllByRecursion (λ one. IsOfFolder one.coming) reported
    → AreMarked rules.plan reported
    → Executions rules always observed rules.plan
    (first_moment (record { world = world_of folder memory; failures = failures })) reports new
    → AreKept rules (world_of folder memory) rules.plan reported reports
