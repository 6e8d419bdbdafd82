-- A build of a plan in which each task ended well leaves what the plan makes from scratch.
use Rattle.gb_semantics.proofs.Existing.{rules_of, existing}
use Rattle.gb_semantics.proofs.Lemmas.Clear.{clear_build}
use Rattle.std.specs.Prelude.{ℕ, ◌≡◌, true, false, not, cond, ◌&&◌, List, [], ◌∷◌, Some}
use Rattle.std.specs.List.{list_any, list_all, fold, AllByRecursion}
use Rattle.gb_report.specs.Outcome.{is_failed, is_started}
use Rattle.gb_plan.proofs.Tests.{not_false}
use Rattle.gb_semantics.proofs.Common.{all_assumed}
use Rattle.gb_semantics.proofs.Lemmas.Started.{all_started}
use Rattle.std.proofs.Common.{subst, refl, sym, ap, ◌∙◌, inl, inr}
use Rattle.gb_report.specs.declared.report.Options.{Options}
use Rattle.gb_report.specs.declared.report.TaskReport.{TaskReport}
use Rattle.gb_folder.specs.Files.{Bytes, IsFolder}
use Rattle.gb_semantics.proofs.Lemmas.Truth.{AllMade, trusted_in}
use Rattle.gb_semantics.specs.Kinds.{Kinds}
use Rattle.gb_semantics.specs.Memory.{World}
use Rattle.gb_plan.specs.Graph.{Plan, Request, IsPlan}
use Rattle.gb_plan.specs.declared.plan.Planned.{Planned}
use Rattle.gb_plan.specs.Task.{IsShaped}
use Rattle.gb_semantics.specs.Execution.{first_moment, May, Builds}
use Rattle.gb_semantics.specs.Scratch.{from_scratch, cleared, add_task}
use Rattle.gb_semantics.proofs.Lemmas.Worked.{IsTrusted}
use Rattle.gb_semantics.proofs.Lemmas.Scratch.{AreDone, actives, done_follows, ended_well, follows, where_all, no_out}
use Rattle.gb_semantics.proofs.Lemmas.Sound.{sound_fits, paths_distinct}
use Rattle.gb_semantics.specs.Promise.{SuccessIsFromScratch, TruthIsKept, any_fault_comes}
use Rattle.gb_semantics.proofs.Lemmas.Kept.{executions_keep}
use Rattle.gb_semantics.proofs.Lemmas.Files.{left_of, right_of}

-- Where no task failed, each was started and ended well.
pub all_end_well : (kinds : Kinds) (options : Options) (may_occur : May) (request : Request) (plan : Plan) (observed : List Bytes) (before after : ℕ) (old new : World) (reports : List TaskReport)
    → IsPlan request plan → list_any (λ (report : TaskReport). is_failed report.outcome) reports ≡ false → options.dry_run ≡ false
    → Builds (rules_of kinds options may_occur plan) all_assumed observed (existing old before) reports (existing new after) → list_all ended_well reports ≡ true
all_end_well kinds options may_occur request plan observed before after old new reports is_plan none wet builds = elim builds [
  | inl dry ↦ not_false (sym dry.0 ∙ wet)
  | inr run ↦ all_started options request plan is_plan.schedule kinds may_occur observed [] plan (record { world = old; outcomes = []; failures = before }) reports new after refl refl is_plan.all_ready none run.1
]

-- Where no task failed, the folder is what the plan makes from scratch, if what is remembered is true.
pub from_scratch_follows : (kinds : Kinds) (options : Options) (may_occur : May) (request : Request) (plan : Plan) (observed : List Bytes) (before after : ℕ) (old new : World) (reports : List TaskReport)
    → IsPlan request plan → AllByRecursion (λ (planned : Planned). IsShaped planned.task) plan
    → IsFolder old.folder.files → AllMade kinds old.memory
    → list_any (λ (report : TaskReport). is_failed report.outcome) reports ≡ false
    → Builds (rules_of kinds options may_occur plan) all_assumed observed (existing old before) reports (existing new after)
    → from_scratch kinds options plan old.folder ≡ Some new.folder.files
from_scratch_follows kinds options may_occur request plan observed before after old new reports is_plan shaped folder made none builds = elim builds [
  | inl dry ↦
      ap (λ b. fold (add_task kinds old.folder) (Some (cleared (cond b [] (actives plan)) old.folder.files)) (cond b [] (actives plan))) dry.0
      ∙ ap Some (where_all (no_out []) (λ q. refl) old.folder.files ∙ ap (λ (w : World). w.folder.files) (sym dry.2))
  | inr run ↦
      ap (λ b. fold (add_task kinds old.folder) (Some (cleared (cond b [] (actives plan)) old.folder.files)) (cond b [] (actives plan))) run.0
      ∙ follows kinds options may_occur plan old.folder observed plan (record { world = old; outcomes = []; failures = before }) reports new after refl folder
      (sound_fits plan is_plan.schedule.once is_plan.all_ready is_plan.sound shaped) (all_trusted plan) (paths_distinct plan is_plan.schedule.once)
      (all_end_well kinds options may_occur request plan observed before after old new reports is_plan none run.0 (inr run)) run.1
]
  where
    all_trusted : (zs : List Planned) → AllByRecursion (λ (planned : Planned). IsTrusted kinds old.memory planned.task) zs
    all_trusted [] = tt
    all_trusted (z ∷ zs) = (trusted_in kinds old.memory z.task made, all_trusted zs)

-- Where each task of a plan was done, the folder is what the plan makes from scratch.
pub done_from_scratch : (kinds : Kinds) (options : Options) (request : Request) (plan : Plan) (old new : World)
    → IsPlan request plan → AllByRecursion (λ (planned : Planned). IsShaped planned.task) plan
    → IsFolder old.folder.files → AllMade kinds old.memory → options.dry_run ≡ false
    → AreDone kinds plan old new → from_scratch kinds options plan old.folder ≡ Some new.folder.files
done_from_scratch kinds options request plan old new is_plan shaped folder made wet done =
    ap (λ b. fold (add_task kinds old.folder) (Some (cleared (cond b [] (actives plan)) old.folder.files)) (cond b [] (actives plan))) wet
    ∙ done_follows kinds old.folder plan old new refl folder
    (sound_fits plan is_plan.schedule.once is_plan.all_ready is_plan.sound shaped) (all_trusted plan) (paths_distinct plan is_plan.schedule.once) done
  where
    all_trusted : (zs : List Planned) → AllByRecursion (λ (planned : Planned). IsTrusted kinds old.memory planned.task) zs
    all_trusted [] = tt
    all_trusted (z ∷ zs) = (trusted_in kinds old.memory z.task made, all_trusted zs)

pub each_started : (reports : List TaskReport) → list_all ended_well reports ≡ true → list_all (λ (r : TaskReport). is_started r.outcome) reports ≡ true
each_started [] e = refl
each_started (r ∷ reports) e =
    ap (λ b. b && list_all (λ (r : TaskReport). is_started r.outcome) reports) (left_of (is_started r.outcome) (not (is_failed r.outcome)) (left_of (ended_well r) (list_all ended_well reports) e))
    ∙ each_started reports (right_of (ended_well r) (list_all ended_well reports) e)

pub success : SuccessIsFromScratch
success kinds options digest request plan observed old new reports is_plan shaped folder made none separate builds =
    let clear = clear_build kinds options any_fault_comes digest plan observed old.failures new.failures old.world new.world reports is_plan.sound.outputs_separate separate builds in (
      λ wet. each_started reports (all_end_well kinds options any_fault_comes request plan observed old.failures new.failures old.world new.world reports is_plan none wet clear),
      from_scratch_follows kinds options any_fault_comes request plan observed old.failures new.failures old.world new.world reports is_plan shaped folder made none clear,
    )

pub truth : TruthIsKept
truth kinds options digest plan observed old new reports sound folder made separate builds =
    elim (clear_build kinds options any_fault_comes digest plan observed old.failures new.failures old.world new.world reports sound.outputs_separate separate builds) [
      | inl dry ↦ subst (λ (w : World). AllMade kinds w.memory) (sym dry.2) made
      | inr run ↦ executions_keep kinds options any_fault_comes plan observed plan (first_moment old) reports new.world new.failures made folder sound.inputs_separate run.1
    ]
