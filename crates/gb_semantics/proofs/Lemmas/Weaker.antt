-- A build remains one where more faults may occur and less is assumed.
use Rattle.std.specs.Prelude.{ℕ, List, [], ◌∷◌, ◌++◌}
use Rattle.std.proofs.Common.{inl, inr}
use Rattle.gb_report.specs.declared.fault.Fault.{Fault}
use Rattle.gb_report.specs.declared.report.Options.{Options}
use Rattle.gb_report.specs.declared.report.TaskReport.{TaskReport}
use Rattle.gb_folder.specs.Files.{Bytes}
use Rattle.gb_plan.specs.declared.task.TaskDeclaration.{TaskDeclaration as Task}
use Rattle.gb_semantics.proofs.Existing.{rules_of, existing, with_execution}
use Rattle.gb_semantics.specs.Kinds.{Kinds}
use Rattle.gb_semantics.specs.Memory.{World, folder_contents}
use Rattle.gb_plan.specs.Graph.{Plan}
use Rattle.gb_plan.specs.declared.plan.Planned.{Planned}
use Rattle.gb_semantics.specs.Label.{Moment}
use Rattle.gb_semantics.specs.Execution.{May, WorldState, Guard, Execution, Executions, Builds, moment_after}

-- an execution remains one where more faults may occur in it
pub execution_weaker : (kinds : Kinds) (options : Options) (plan : Plan) (may wider : May) (moment : Moment) (planned : Planned) (report : TaskReport) (new : WorldState)
    → ((fault : Fault) → may planned.task moment new fault → wider planned.task moment new fault)
    → Execution (rules_of kinds options may plan) moment planned report new → Execution (rules_of kinds options wider plan) moment planned report new
execution_weaker kinds options plan may wider moment planned report new widens execution = (
  execution.0,
  execution.1,
  elim execution.2 [
    | inl started ↦ inl (
      started.0,
      record {
        label = elim started.1.label [ inl label ↦ inl label | inr comes ↦ inr (comes.0, widens comes.0 comes.1, comes.2) ];
        leaves = started.1.leaves;
        prints = started.1.prints;
        reading = started.1.reading;
        begun = started.1.begun;
      },
    )
    | inr passed ↦ inr passed
  ],
)

module _ (kinds : Kinds) (options : Options) (plan : Plan) (may wider : May) (widens : (task : Task) (moment : Moment) (new : WorldState) (fault : Fault) → may task moment new fault → wider task moment new fault)
    (assumed less : Guard) (grants : (contents : List Bytes) → less contents → assumed contents) where
  pub executions_weaker : (observed : List Bytes) (rest : List Planned) (moment : Moment) (reports : List TaskReport) (new : World) (failures : ℕ)
      → Executions (rules_of kinds options may plan) assumed observed rest moment reports (existing new failures) → Executions (rules_of kinds options wider plan) less observed rest moment reports (existing new failures)
  executions_weaker observed [] moment [] new failures executions = executions
  executions_weaker observed [] moment (report ∷ reports) new failures executions = executions
  executions_weaker observed (planned ∷ rest) moment [] new failures executions = executions
  executions_weaker observed (planned ∷ rest) moment (report ∷ reports) new failures executions = (
    executions.0,
    with_execution executions.1 (λ h. execution_weaker kinds options plan may wider moment planned report executions.0 (widens planned.task moment executions.0) (executions.1.execution (grants (observed ++ folder_contents moment.world) h))),
    executions_weaker (observed ++ folder_contents moment.world) rest (moment_after moment report executions.0) reports new failures executions.2,
  )

  pub builds_weaker : (observed : List Bytes) (before after : ℕ) (old new : World) (reports : List TaskReport)
      → Builds (rules_of kinds options may plan) assumed observed (existing old before) reports (existing new after) → Builds (rules_of kinds options wider plan) less observed (existing old before) reports (existing new after)
  builds_weaker observed before after old new reports builds = elim builds [
    | inl dry ↦ inl dry
    | inr run ↦ inr (run.0, executions_weaker observed plan (record { world = old; outcomes = []; failures = before }) reports new after run.1)
  ]
