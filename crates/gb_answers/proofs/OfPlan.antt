-- The tasks of the plan of a build, by the scripts that its calls returned.
use Rattle.std.specs.Prelude.{◌≡◌, ◌++◌, false, List, [], ◌∷◌, map, Some, Result, Ok, Err, IsTrue, IfOk}
use Rattle.std.specs.List.{AllByRecursion, list_any}
use Rattle.std.proofs.Common.{refl, sym, subst, ◌∙◌}
use Rattle.gb_action.specs.Meanings.{Meanings}
use Rattle.gb_build.proofs.RequestAsked.{planned_all, request_registry}
use Rattle.gb_build.specs.Asking.{AreBuildable}
use Rattle.gb_build.specs.InvocationAsked.{BuildsDeclared}
use Rattle.gb_core.specs.Path.{is_task_path}
use Rattle.gb_core.specs.Place.{overlaps}
use Rattle.gb_declare.specs.Registered.{declaration_of, registry_said}
use Rattle.gb_folder.specs.Files.{Place}
use Rattle.gb_semantics.specs.declared.events.Invocation.{Invocation}
use Rattle.gb_semantics.proofs.Lemmas.Clear.{places_of}
use Rattle.gb_plan.specs.Graph.{IsRegistry, Plan, Registry, Request, declaration_at, order, some_overlap}
use Rattle.gb_plan.specs.Ready.{Rows}
use Rattle.gb_plan.specs.Task.{IsShaped, Path, output_places}
use Rattle.gb_plan.specs.declared.plan.Planned.{Planned}
use Rattle.gb_plan.specs.declared.task.TaskDeclaration.{TaskDeclaration as Task}
use Rattle.gb_plan.proofs.Places.{overlap_tail}
use Rattle.gb_plan.proofs.Registered.{at_declared, planned_shaped}
use Rattle.gb_plan.proofs.Tests.{any_append, neither, none_left, none_right}
use Rattle.gb_registry.specs.Said.{paths_of}
use Rattle.gb_registry.specs.Tables.{Tables}
use Rattle.gb_report.specs.declared.fault.Fault.{Fault}
use Rattle.gb_report.specs.declared.report.Report.{Report}
use Rattle.gb_task.specs.Buildable.{IsBuildable}
use Rattle.gb_answers.proofs.Chain.{MayStep}
use Rattle.gb_answers.proofs.Named.{named}
use Rattle.gb_folder.specs.Calls.{Device}

-- ---- Plans

overlap_head : (xs ys : List Place) → some_overlap (xs ++ ys) ≡ false → some_overlap xs ≡ false
overlap_head [] ys e = refl
overlap_head (x ∷ xs) ys e =
    neither (list_any (overlaps x) xs) (some_overlap xs)
    (none_left (list_any (overlaps x) xs) (list_any (overlaps x) ys) (sym (any_append (overlaps x) xs ys) ∙ none_left (list_any (overlaps x) (xs ++ ys)) (some_overlap (xs ++ ys)) e))
    (overlap_head xs ys (none_right (list_any (overlaps x) (xs ++ ys)) (some_overlap (xs ++ ys)) e))

may_step : {S : Type 0} (meanings : Meanings S) (rows : Rows S) (rest : List Planned) → AllByRecursion (λ (planned : Planned). IsBuildable meanings rows planned.task) rest
    → AllByRecursion (λ (planned : Planned). IsShaped planned.task) rest → some_overlap (places_of rest) ≡ false → AllByRecursion (MayStep meanings rows) rest
may_step meanings rows [] buildable shaped apart = tt
may_step meanings rows (planned ∷ rest) buildable shaped apart =
    ((buildable.0, shaped.0, overlap_head (output_places planned.task) (places_of rest) apart), may_step meanings rows rest buildable.1 shaped.1 (overlap_tail (output_places planned.task) (places_of rest) apart))

module _ {F M N Z S A : Type 0} (device : Device F) (tables : Tables M N Z S A)
    (invocation : Invocation) (report : Report) (old new : F) (builds : BuildsDeclared device tables invocation report old new) where
  abbrev pub registry : Registry
  registry = registry_said tables builds.source

  abbrev pub request : Request
  request = builds.by.request

  abbrev pub plan : Plan
  plan = builds.by.plan

  pub of_registry : request.registry ≡ registry
  of_registry = request_registry registry invocation.requested invocation.excluded request builds.by.asked

  pub is_registry : IsRegistry request.registry
  is_registry = subst IsRegistry (sym of_registry) builds.is_registry

  pub shaped : AllByRecursion (λ (planned : Planned). IsShaped planned.task) plan
  shaped = planned_shaped request plan is_registry builds.by.planned.schedule

  pub each_buildable : AllByRecursion (λ (planned : Planned). IsBuildable tables.shapes tables.kinds planned.task) plan
  each_buildable = planned_all (IsBuildable tables.shapes tables.kinds) request plan
      (subst (AreBuildable tables.shapes tables.kinds) (sym of_registry) builds.buildable) builds.by.planned.schedule

  pub each_may : AllByRecursion (MayStep tables.shapes tables.kinds) plan
  each_may = may_step tables.shapes tables.kinds plan each_buildable shaped builds.by.planned.sound.outputs_separate

  pub each_named : AllByRecursion (λ (path : Path). IsTrue (is_task_path path)) (order plan)
  each_named = ordered plan builds.by.planned.schedule.declared
    where
      entries : (paths : List Path) → AllByRecursion (λ (path : Path). IsTrue (is_task_path path)) paths
          → AllByRecursion (λ (entry : Path × Result Task Fault). IfOk entry.1 (λ (task : Task). IsTrue (is_task_path entry.0))) (map (λ (path : Path). (path, declaration_of tables builds.source path)) paths)
      entries [] all = tt
      entries (path ∷ paths) all = (of_ok (declaration_of tables builds.source path) all.0, entries paths all.1)
        where
          of_ok : (declared : Result Task Fault) → IsTrue (is_task_path path) → IfOk declared (λ (task : Task). IsTrue (is_task_path path))
          of_ok (Ok task) good = good
          of_ok (Err fault) good = tt

      at_path : (path : Path) (task : Task) → declaration_at request.registry path ≡ Some (Ok task) → IsTrue (is_task_path path)
      at_path path task declared =
          at_declared (λ (p : Path) (t : Task). IsTrue (is_task_path p)) registry.tasks (entries (paths_of builds.source.said) (named device old builds.begun tables invocation.properties builds.source builds.declared))
          path task (subst (λ (r : Registry). declaration_at r path ≡ Some (Ok task)) of_registry declared)

      ordered : (rest : List Planned) → AllByRecursion (λ (planned : Planned). declaration_at request.registry planned.task.path ≡ Some (Ok planned.task)) rest
          → AllByRecursion (λ (path : Path). IsTrue (is_task_path path)) (order rest)
      ordered [] declared = tt
      ordered (planned ∷ rest) declared = (at_path planned.task.path planned.task declared.0, ordered rest declared.1)
