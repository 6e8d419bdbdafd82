-- The prediction for a task from the decision on it.
use Rattle.std.specs.Prelude.{◌≡◌, ◌≢◌, if◌then◌else◌, Option}
use Rattle.gb_folder.specs.Files.{is_empty}
use Rattle.gb_history.specs.Record.{Record}
use Rattle.gb_history.specs.declared.decide.Decision.{Decision}
use Rattle.gb_history.specs.declared.decide.Decision.TheVariants as decisions
use Rattle.gb_history.specs.declared.decide.Present.{Present}
use Rattle.gb_label.specs.declared.deciding.Basis.{Basis}
use Rattle.gb_label.specs.declared.deciding.Basis.TheVariants as bases
use Rattle.gb_label.specs.declared.deciding.FullReason.TheVariants as causes
use Rattle.gb_semantics.specs.Kinds.{Kinds}
use Rattle.gb_plan.specs.declared.task.TaskDeclaration.{TaskDeclaration as Task}
use Rattle.gb_reason.specs.Reasons.{reasons_of}
use Rattle.gb_reason.specs.declared.reason.Reason.{Reason}
use Rattle.gb_reason.specs.declared.reason.Reason.TheVariants as reasons
use Rattle.gb_task.specs.Executions.{is_by_changes}
use Rattle.gb_predict.specs.Prediction.{RunsFor}
use Rattle.gb_predict.specs.declared.predicted_outcome.PredictedOutcome.{PredictedOutcome}
use Rattle.gb_predict.specs.declared.predicted_outcome.PredictedOutcome.TheVariants as comings

-- why a task without a record runs: one without outputs never has one
abbrev pub why_without : Task → Reason
why_without task = if is_empty task.outputs then reasons.NoOutputs else reasons.NoRecord

-- compared with its record the task is up to date, or it runs for all that differs
abbrev pub IsCompared : Kinds → Task → Option Record → Decision → Present → PredictedOutcome → Type 0
IsCompared kinds task old decision present comings.UpToDate = decision ≡ decisions.UpToDate
IsCompared kinds task old decision present (comings.Runs by_changes why) =
    (decision ≢ decisions.UpToDate) × (is_by_changes kinds task decision ≡ by_changes)
    × (why.items ≡ reasons_of old present)
IsCompared kinds task old decision present other = ⊥

-- the prediction, by the basis of the decision
abbrev pub IsExplained : Kinds → Task → Option Record → Decision → Basis → PredictedOutcome → Type 0
IsExplained kinds task old decision (bases.Forced causes.NoRecord) coming = RunsFor (why_without task) coming
IsExplained kinds task old decision (bases.Forced causes.Rerun) coming = RunsFor reasons.Rerun coming
IsExplained kinds task old decision (bases.Forced causes.Stale) coming = RunsFor reasons.Stale coming
IsExplained kinds task old decision (bases.Forced causes.Grown) coming = coming ≡ comings.HasGrown
IsExplained kinds task old decision (bases.Compared present) coming =
    IsCompared kinds task old decision present coming
