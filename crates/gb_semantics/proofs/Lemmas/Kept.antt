-- Whatever the outcome of an execution, also a failure, memory that was true is true after it.
use Rattle.gb_semantics.proofs.Existing.{rules_of, existing}
use Rattle.gb_semantics.proofs.Common.{all_assumed}
use Rattle.std.specs.Prelude.{ℕ, ◌++◌, ◌≡◌, true, false, not, cond, List, [], ◌∷◌, Option, Some, None}
use Rattle.std.specs.List.{AllByRecursion}
use Rattle.std.proofs.Common.{sym, ap, subst, ◌∙◌, inl, inr}
use Rattle.gb_report.specs.declared.fault.Fault.{Fault}
use Rattle.gb_report.specs.declared.report.Outcome.{Outcome}
use Rattle.gb_report.specs.declared.report.Outcome.TheVariants as outcomes
use Rattle.gb_report.specs.declared.report.Options.{Options}
use Rattle.gb_report.specs.declared.report.TaskReport.{TaskReport}
use Rattle.gb_folder.specs.Files.{Bytes, IsFolder, is_empty}
use Rattle.gb_plan.specs.declared.task.TaskDeclaration.{TaskDeclaration as Task}
use Rattle.gb_plan.specs.Task.{is_output_of, output_places}
use Rattle.gb_semantics.specs.Tree.{trees_of}
use Rattle.gb_semantics.specs.Kinds.{Kinds}
use Rattle.gb_semantics.specs.Made.{with_outputs}
use Rattle.gb_semantics.specs.Memory.{Memory, World, folder_contents, forget, remember, entry_of}
use Rattle.gb_plan.specs.Graph.{Plan, reads_output_of}
use Rattle.gb_plan.specs.declared.plan.Planned.{Planned}
use Rattle.gb_semantics.specs.Label.{Moment, Early, Skips, HasNoActions, CannotRead, HasNoSource, early_case}
use Rattle.gb_semantics.specs.Execution.{May, Executions, Leaves, FailureLeaves, HasEnded, IsGivenUp, memory_after, moment_after, Cause, ByItself, ByMachine, cause_of, FailedRunLeaves}
use Rattle.gb_semantics.proofs.Lemmas.Reading.{AllUnobserved}
use Rattle.gb_semantics.proofs.Lemmas.Making.{made_of_is_right}
use Rattle.gb_semantics.proofs.Lemmas.Sound.{unobserved_of}
use Rattle.gb_plan.proofs.Places.{out_of}
use Rattle.gb_semantics.proofs.Lemmas.Truth.{AllMade, entry_made, forget_made, remember_made}

module _ (kinds : Kinds) (options : Options) (task : Task) (old new : World) where
  abbrev memory_of : World → Memory
  memory_of w = w.memory

  moved : (memory : Memory) → new.memory ≡ memory → AllMade kinds memory → AllMade kinds new.memory
  moved memory e h = subst (AllMade kinds) (sym e) h

  ended_keeps : AllMade kinds old.memory → IsFolder old.folder.files → AllUnobserved (λ q. not (is_output_of task q)) task → HasEnded kinds task old new → AllMade kinds new.memory
  ended_keeps all folder unobserved end = moved (memory_after task old.memory (with_outputs task old.folder.files end.0)) (ap memory_of end.2)
      (elim (is_empty task.outputs) as (λ b. AllMade kinds (cond b (forget old.memory task.path) (remember old.memory task.path (entry_of task (with_outputs task old.folder.files end.0))))) [
        | true ↦ forget_made kinds old.memory task.path all
        | false ↦ remember_made kinds old.memory task.path (entry_of task (with_outputs task old.folder.files end.0)) all
            (entry_made kinds task old.folder.files end.0 folder.in_order (made_of_is_right kinds task.outputs task.values (trees_of task old.folder.files) task.actions end.0 end.1) end.1 unobserved)
      ])

  given_up_keeps : (fault : Fault) → AllMade kinds old.memory → IsGivenUp kinds task fault old new → AllMade kinds new.memory
  given_up_keeps fault all given = moved (forget old.memory task.path) given.memory (forget_made kinds old.memory task.path all)

  failed_run_keeps : AllMade kinds old.memory → IsFolder old.folder.files → AllUnobserved (λ q. not (is_output_of task q)) task → (fault : Fault) (cause : Cause)
      → FailedRunLeaves kinds options task fault old new cause → AllMade kinds new.memory
  failed_run_keeps all folder unobserved fault ByItself leaves = given_up_keeps fault all leaves.0
  failed_run_keeps all folder unobserved fault ByMachine leaves = elim leaves.1 [ inl same ↦ moved old.memory (ap memory_of same) all | inr begun ↦ elim begun [ inl given ↦ given_up_keeps fault all given.0 | inr end ↦ ended_keeps all folder unobserved end.1 ] ]

  failure_keeps : AllMade kinds old.memory → IsFolder old.folder.files → AllUnobserved (λ q. not (is_output_of task q)) task → (fault : Fault) (case : Option Early)
      → FailureLeaves kinds options task fault old new case → AllMade kinds new.memory
  failure_keeps all folder unobserved fault (Some Skips) leaves = moved old.memory (ap memory_of leaves) all
  failure_keeps all folder unobserved fault (Some HasNoActions) leaves = moved old.memory (ap memory_of leaves) all
  failure_keeps all folder unobserved fault (Some (CannotRead hindrances)) leaves = moved old.memory (ap memory_of leaves) all
  failure_keeps all folder unobserved fault (Some HasNoSource) leaves = elim leaves [ inl same ↦ moved old.memory (ap memory_of same) all | inr given ↦ given_up_keeps fault all given ]
  failure_keeps all folder unobserved fault None leaves = failed_run_keeps all folder unobserved fault (cause_of fault) leaves

  pub leaves_keep : AllMade kinds old.memory → IsFolder old.folder.files → AllUnobserved (λ q. not (is_output_of task q)) task → (outcome : Outcome) → Leaves kinds options task old outcome new → AllMade kinds new.memory
  leaves_keep all folder unobserved outcomes.Executed leaves = elim leaves [ inl same ↦ moved old.memory (ap memory_of same.1) all | inr end ↦ ended_keeps all folder unobserved end.1 ]
  leaves_keep all folder unobserved outcomes.UpToDate leaves = moved old.memory (ap memory_of leaves) all
  leaves_keep all folder unobserved outcomes.Skipped leaves = moved old.memory (ap memory_of leaves) all
  leaves_keep all folder unobserved outcomes.NoSource leaves = moved (forget old.memory task.path) (ap memory_of leaves) (forget_made kinds old.memory task.path all)
  leaves_keep all folder unobserved (outcomes.Failed fault) leaves = failure_keeps all folder unobserved fault (early_case task old.folder) leaves
  leaves_keep all folder unobserved outcomes.NotRun leaves = moved old.memory (ap memory_of leaves) all

-- no task reads its own outputs, so it reads none of their files
own_unobserved : (task : Task) → reads_output_of task task ≡ false → AllUnobserved (λ q. not (is_output_of task q)) task
own_unobserved task e = unobserved_of task (λ q. not (is_output_of task q)) (output_places task) (λ q none. ap not (out_of task q ∙ none)) e

-- The same over all executions, also stopped and failed ones.
pub executions_keep : (kinds : Kinds) (options : Options) (may_occur : May) (plan : Plan) (observed : List Bytes) (rest : List Planned) (moment : Moment) (reports : List TaskReport) (new : World) (failures : ℕ)
    → AllMade kinds moment.world.memory → IsFolder moment.world.folder.files → AllByRecursion (λ (planned : Planned). reads_output_of planned.task planned.task ≡ false) rest
    → Executions (rules_of kinds options may_occur plan) all_assumed observed rest moment reports (existing new failures) → AllMade kinds new.memory
executions_keep kinds options may_occur plan observed [] moment [] new failures all folder unread executions = subst (λ (w : World). AllMade kinds w.memory) (sym executions.0) all
executions_keep kinds options may_occur plan observed [] moment (report ∷ reports) new failures all folder unread executions = absurd executions
executions_keep kinds options may_occur plan observed (planned ∷ rest) moment [] new failures all folder unread executions = absurd executions
executions_keep kinds options may_occur plan observed (planned ∷ rest) moment (report ∷ reports) new failures all folder unread executions =
    executions_keep kinds options may_occur plan (observed ++ folder_contents moment.world) rest (moment_after moment report executions.0) reports new failures
    (elim (executions.1.execution tt).2 [
      | inl started ↦ leaves_keep kinds options planned.task moment.world executions.0.world all folder (own_unobserved planned.task unread.0) report.outcome started.1.leaves
      | inr passed ↦ subst (λ (w : World). AllMade kinds w.memory) (sym passed.1.unchanged) all
    ]) executions.1.folder unread.1 executions.2
