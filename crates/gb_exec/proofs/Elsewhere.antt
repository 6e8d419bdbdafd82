-- An execution changes what is remembered only of its own task.
use Rattle.std.specs.Prelude.{◌≡◌, true, false, not, cond, Option, Some, None, bytes_eq}
use Rattle.std.proofs.Common.{refl, ap, ◌∙◌, inl, inr}
use Rattle.gb_folder.specs.Files.{is_empty}
use Rattle.gb_semantics.specs.Kinds.{Kinds}
use Rattle.gb_semantics.specs.Label.{CannotRead, Early, HasNoActions, HasNoSource, Moment, Skips, early_case}
use Rattle.gb_semantics.specs.Made.{with_outputs}
use Rattle.gb_semantics.specs.Memory.{Entry, Memory, World, entry_of, forget, recalled, remember}
use Rattle.gb_semantics.specs.Execution.{ByItself, ByMachine, Cause, FailedRunLeaves, FailureLeaves, HasEnded, IsGivenUp, Leaves, Rules, WorldState, Execution, cause_of}
use Rattle.gb_plan.specs.Task.{Path}
use Rattle.gb_plan.specs.declared.plan.Planned.{Planned}
use Rattle.gb_plan.specs.declared.task.TaskDeclaration.{TaskDeclaration as Task}
use Rattle.gb_report.specs.declared.fault.Fault.{Fault}
use Rattle.gb_report.specs.declared.report.Options.{Options}
use Rattle.gb_report.specs.declared.report.Outcome.{Outcome}
use Rattle.gb_report.specs.declared.report.Outcome.TheVariants as outcomes
use Rattle.gb_report.specs.declared.report.TaskReport.{TaskReport}
use Rattle.gb_task.proofs.Memories.{recalled-forget, recalled-remember}

module _ (kinds : Kinds) (options : Options) (task : Task) (old new : World) (path : Path) (other : bytes_eq path task.path ≡ false) where
  abbrev IsKept : Memory → Type 0
  IsKept memory = recalled memory path ≡ recalled old.memory path

  moved : (memory : Memory) → new.memory ≡ memory → IsKept memory → IsKept new.memory
  moved memory e h = ap (λ (m : Memory). recalled m path) e ∙ h

  same : new ≡ old → IsKept new.memory
  same e = moved old.memory (ap (λ (w : World). w.memory) e) refl

  forgotten : IsKept (forget old.memory task.path)
  forgotten = recalled-forget old.memory task.path path ∙ ap (λ b. cond (not b) (recalled old.memory path) None) other

  remembered : (entry : Entry) → IsKept (remember old.memory task.path entry)
  remembered entry = recalled-remember old.memory task.path entry path ∙ ap (λ b. cond b (Some entry) (recalled old.memory path)) other

  ended : HasEnded kinds task old new → IsKept new.memory
  ended end = moved _ (ap (λ (w : World). w.memory) end.2)
      (elim (is_empty task.outputs) as (λ b. IsKept (cond b (forget old.memory task.path) (remember old.memory task.path (entry_of task (with_outputs task old.folder.files end.0))))) [
        | true ↦ forgotten
        | false ↦ remembered (entry_of task (with_outputs task old.folder.files end.0))
      ])

  given_up : (fault : Fault) → IsGivenUp kinds task fault old new → IsKept new.memory
  given_up fault given = moved (forget old.memory task.path) given.memory forgotten

  failed_run : (fault : Fault) (cause : Cause) → FailedRunLeaves kinds options task fault old new cause → IsKept new.memory
  failed_run fault ByItself leaves = given_up fault leaves.0
  failed_run fault ByMachine leaves = elim leaves.1 [
    | inl stays ↦ same stays
    | inr begun ↦ elim begun [ inl given ↦ given_up fault given.0 | inr end ↦ ended end.1 ]
  ]

  failure : (fault : Fault) (case : Option Early) → FailureLeaves kinds options task fault old new case → IsKept new.memory
  failure fault (Some Skips) leaves = same leaves
  failure fault (Some HasNoActions) leaves = same leaves
  failure fault (Some (CannotRead hindrances)) leaves = same leaves
  failure fault (Some HasNoSource) leaves = elim leaves [ inl stays ↦ same stays | inr given ↦ given_up fault given ]
  failure fault None leaves = failed_run fault (cause_of fault) leaves

  leaves_others : (outcome : Outcome) → Leaves kinds options task old outcome new → IsKept new.memory
  leaves_others outcomes.Executed leaves = elim leaves [ inl stays ↦ same stays.1 | inr end ↦ ended end.1 ]
  leaves_others outcomes.UpToDate leaves = same leaves
  leaves_others outcomes.Skipped leaves = same leaves
  leaves_others outcomes.NoSource leaves = moved (forget old.memory task.path) (ap (λ (w : World). w.memory) leaves) forgotten
  leaves_others (outcomes.Failed fault) leaves = failure fault (early_case task old.folder) leaves
  leaves_others outcomes.NotRun leaves = same leaves

-- of every task but the executed one the same is remembered
pub execution_leaves_others : (rules : Rules) (moment : Moment) (planned : Planned) (report : TaskReport) (new : WorldState) → Execution rules moment planned report new
    → (path : Path) → bytes_eq path planned.task.path ≡ false → recalled new.world.memory path ≡ recalled moment.world.memory path
execution_leaves_others rules moment planned report new execution path other = elim execution.2 [
  | inl started ↦ leaves_others rules.kinds rules.options planned.task moment.world new.world path other report.outcome started.1.leaves
  | inr passed ↦ same rules.kinds rules.options planned.task moment.world new.world path other passed.1.unchanged
]
