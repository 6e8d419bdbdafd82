-- Success is no clause of its own: it follows from the plan, the executions, registries and true records.
use Rattle.std.specs.Prelude.{ℕ, ◌≡◌, Bool, true, false, not, cond, ◌&&◌, ◌||◌, List, [], ◌∷◌, ◌++◌, Some, None, Result, Ok, Err, IsTrue, refl}
use Rattle.std.specs.List.{AllByRecursion, list_any, list_all, flat_map}
use Rattle.std.proofs.Common.{sym, ap, subst, ◌∙◌, inl, inr}
use Rattle.gb_report.specs.declared.fault.Fault.{Fault}
use Rattle.gb_report.specs.declared.fault.Fault.TheVariants as faults
use Rattle.gb_report.specs.declared.report.TaskReport.{TaskReport}
use Rattle.gb_plan.proofs.Registered.{planned_shaped}
use Rattle.gb_semantics.proofs.Existing.{rules_of, existing}
use Rattle.gb_semantics.specs.declared.events.Invocation.{Invocation}
use Rattle.gb_folder.specs.Files.{Place, Bytes, Files, IsFolder, files_where, is_own, is_blocked, is_empty}
use Rattle.gb_core.specs.Place.{is_beneath}
use Rattle.gb_core.specs.Lists.{first_of}
use Rattle.gb_plan.specs.Task.{Text, IsShaped}
use Rattle.gb_semantics.specs.Memory.{World, folder_contents}
use Rattle.gb_semantics.specs.TrueRecord.{outside}
use Rattle.gb_plan.specs.Graph.{Plan, Registry, Request, IsRegistry, words_of, selected_by}
use Rattle.gb_plan.specs.declared.plan.Planned.{Planned}
use Rattle.gb_plan.specs.Refusal.{request_of, word_faults}
use Rattle.gb_report.specs.Outcome.{is_failed, is_started}
use Rattle.gb_semantics.specs.Execution.{May, Guard, Builds}
use Rattle.gb_semantics.specs.Scratch.{from_scratch}
use Rattle.gb_semantics.specs.Events.{Setting, State, HasPlan, world_in}
use Rattle.gb_semantics.specs.Headline.{HoldsMemory, contents_outside, AreRegistries}
use Rattle.gb_semantics.proofs.Lemmas.Plain.{Spreads, plain_builds}
use Rattle.gb_semantics.proofs.Lemmas.Kept.{executions_keep}
use Rattle.gb_semantics.proofs.Lemmas.Truth.{AllMade, fewer_block, each_of_all, filter_each}
use Rattle.gb_semantics.proofs.Lemmas.Files.{sorted-where}
use Rattle.gb_plan.proofs.Tests.{no_longer}
use Rattle.gb_semantics.proofs.Lemmas.Whole.{all_end_well, from_scratch_follows, each_started}

-- ---- A part of a folder is a folder

all_of : {X : Type 0} (p : X → Bool) (xs : List X) → AllByRecursion (λ x. p x ≡ true) xs → list_all p xs ≡ true
all_of p [] h = refl
all_of p (x ∷ xs) h = ap (λ b. b && list_all p xs) h.0 ∙ all_of p xs h.1

pub folder_where : (test : Place → Bool) (files : Files) → IsFolder files → IsFolder (files_where test files)
folder_where test files folder = record {
  in_order = sorted-where test files folder.in_order;
  none_blocked = all_of (λ (f : Place × Bytes). not (is_blocked (files_where test files) f.0)) (files_where test files)
      (filter_each (λ (f : Place × Bytes). test f.0) (λ f. not (is_blocked (files_where test files) f.0) ≡ true) files
      (free files (each_of_all (λ (f : Place × Bytes). not (is_blocked files f.0)) files folder.none_blocked)));
}
  where
    free : (xs : Files) → AllByRecursion (λ (f : Place × Bytes). not (is_blocked files f.0) ≡ true) xs → AllByRecursion (λ (f : Place × Bytes). not (is_blocked (files_where test files) f.0) ≡ true) xs
    free [] h = tt
    free (f ∷ xs) h = (ap not (fewer_block (λ file. is_beneath f.0 file.0 || is_beneath file.0 f.0) (λ g. test g.0) files (no_longer (is_blocked files f.0) h.0)), free xs h.1)

-- ---- What is planned was registered

abbrev registry_in : Registry → Result Request Fault → Registry
registry_in other (Ok request) = request.registry
registry_in other (Err fault) = other

asked_of : (registry : Registry) (requested excluded : List Text) → registry_in registry (request_of registry requested excluded) ≡ registry
asked_of registry requested excluded = checked (words_of registry requested)
  where
    unless : (b : Bool) (x y : Result Request Fault) → registry_in registry x ≡ registry → registry_in registry y ≡ registry → registry_in registry (cond b x y) ≡ registry
    unless true x y is other = is
    unless false x y is other = other

    checked : (words : List Text) → registry_in registry (cond (is_empty words) (Err faults.NoTasks)
        (elim (first_of (flat_map (word_faults registry) (words ++ excluded))) [
          | None ↦ Ok (record { registry = registry; words = words; excluded = flat_map (selected_by registry) excluded })
          | Some fault ↦ Err fault
        ])) ≡ registry
    checked words = unless (is_empty words) (Err faults.NoTasks) _ refl
        (elim (first_of (flat_map (word_faults registry) (words ++ excluded))) as (λ o. registry_in registry (elim o [
          | None ↦ Ok (record { registry = registry; words = words; excluded = flat_map (selected_by registry) excluded })
          | Some fault ↦ Err fault
        ]) ≡ registry) [ None ↦ refl | Some fault ↦ refl ])

-- ---- Success

registry_is : (registry : Registry) (requested excluded : List Text) (request : Request) → request_of registry requested excluded ≡ Ok request → registry ≡ request.registry
registry_is registry requested excluded request e = sym (asked_of registry requested excluded) ∙ ap (registry_in registry) e

pub success_follows : (setting : Setting) (assumed : Guard) → Spreads assumed → AreRegistries setting.registers → (old : State) → HoldsMemory setting old.contents old.remembered
    → (invocation : Invocation) (plan : Plan) → HasPlan setting (outside old.contents) invocation plan
    → (may : May) (observed : List Bytes) (after : ℕ) (new : World) (reports : List TaskReport)
    → assumed (observed ++ contents_outside old.contents ++ folder_contents new)
    → list_any (λ (report : TaskReport). is_failed report.outcome) reports ≡ false
    → Builds (rules_of setting.kinds invocation.options may plan) assumed observed (existing (world_in old) old.failures) reports (existing new after)
    → (invocation.options.dry_run ≡ false → IsTrue (list_all (λ (report : TaskReport). is_started report.outcome) reports))
    × (from_scratch setting.kinds invocation.options plan (outside old.contents) ≡ Some new.folder.files)
success_follows setting assumed spreads registries old exists invocation plan planned may observed after new reports given none builds =
    let plain = plain_builds setting assumed spreads may invocation.options planned.request plan observed observed old.failures after (world_in old) new reports planned.planned given builds in (
      λ wet. each_started reports (all_end_well setting.kinds invocation.options may planned.request plan observed old.failures after (world_in old) new reports planned.planned none wet plain),
      from_scratch_follows setting.kinds invocation.options may planned.request plan observed old.failures after (world_in old) new reports planned.planned shaped
          (folder_where (λ place. not (is_own place)) old.contents.files exists.is_folder) exists.made none plain,
    )
  where
    is_registry : IsRegistry planned.registry
    is_registry = registries (outside old.contents).files invocation.properties planned.registry planned.scripts

    shaped : AllByRecursion (λ (p : Planned). IsShaped p.task) plan
    shaped = planned_shaped planned.request plan (subst IsRegistry (registry_is planned.registry invocation.requested invocation.excluded planned.request planned.asked) is_registry) planned.planned.schedule

-- What is remembered after a build is true, whatever the result: this part of what a folder holds follows
-- too.
pub truth_follows : (setting : Setting) (assumed : Guard) → Spreads assumed → (old : State) → HoldsMemory setting old.contents old.remembered
    → (invocation : Invocation) (plan : Plan) → HasPlan setting (outside old.contents) invocation plan
    → (may : May) (observed : List Bytes) (after : ℕ) (new : World) (reports : List TaskReport)
    → assumed (observed ++ contents_outside old.contents ++ folder_contents new)
    → Builds (rules_of setting.kinds invocation.options may plan) assumed observed (existing (world_in old) old.failures) reports (existing new after)
    → AllMade setting.kinds new.memory
truth_follows setting assumed spreads old exists invocation plan planned may observed after new reports given builds =
    elim (plain_builds setting assumed spreads may invocation.options planned.request plan observed observed old.failures after (world_in old) new reports planned.planned given builds) [
      | inl dry ↦ subst (λ (w : World). AllMade setting.kinds w.memory) (sym dry.2) exists.made
      | inr run ↦ executions_keep setting.kinds invocation.options may plan observed plan (record { world = world_in old; outcomes = []; failures = old.failures }) reports new after exists.made
          (folder_where (λ place. not (is_own place)) old.contents.files exists.is_folder) planned.planned.sound.inputs_separate run.1
    ]
