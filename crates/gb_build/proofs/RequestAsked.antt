-- What is requested of a registry is requested of its tasks; so what holds of each declaration holds of the
-- plan's.
use Rattle.std.specs.Prelude.{◌≡◌, ◌++◌, true, false, not, cond, List, [], ◌∷◌, Some, None, Result, Ok, Err, IfOk, IfErr}
use Rattle.std.specs.List.{AllByRecursion, flat_map}
use Rattle.std.specs.FinMap.Entries.{find}
use Rattle.std.specs.Ordering.{is_eq}
use Rattle.std.proofs.Common.{refl, ap, subst, inl, inr}
use Rattle.gb_core.specs.Lists.{byte_order, first_of}
use Rattle.gb_core.specs.Path.{is_task_path}
use Rattle.gb_folder.specs.Files.{is_empty}
use Rattle.gb_semantics.specs.Headline.{is_of_device}
use Rattle.gb_semantics.proofs.Common.{none_some, some_same}
use Rattle.gb_plan.specs.Graph.{IsSchedule, Plan, Registry, Request, absolute, selected_by, words_of}
use Rattle.gb_plan.specs.Refusal.{IsRefused, IsScheduleFault, has_cycle, has_overlap, has_own_input, is_undeclared, lacks_project, request_of, word_faults}
use Rattle.gb_plan.specs.Task.{Path, Text}
use Rattle.gb_plan.specs.declared.plan.Planned.{Planned}
use Rattle.gb_plan.specs.declared.task.TaskDeclaration.{TaskDeclaration}
use Rattle.gb_plan.proofs.Tests.{each_all}
use Rattle.gb_report.specs.declared.fault.Fault.{Fault}
use Rattle.gb_report.specs.declared.fault.Fault.TheVariants as faults

-- ---- Declarations

-- what holds of each of some rows holds of the one that is found
at_found : {X : Type 0} (P : X → Type 0) (rows : List (Path × X)) → AllByRecursion (λ row. P row.1) rows → (path : Path) (x : X) → find byte_order path rows ≡ Some x → P x
at_found P [] all path x e = none_some e
at_found P (row ∷ rows) all path x e =
    elim (is_eq (byte_order path row.0)) as (λ b. cond b (Some row.1) (find byte_order path rows) ≡ Some x → P x) [
      | true ↦ λ here. subst P (some_same here) all.0
      | false ↦ λ later. at_found P rows all.1 path x later
    ] e

-- what holds of each declared task holds of each task of a schedule
pub planned_all : (P : TaskDeclaration → Type 0) (request : Request) (plan : Plan) → AllByRecursion (λ entry. IfOk entry.1 P) request.registry.tasks
    → IsSchedule request plan → AllByRecursion (λ (planned : Planned). P planned.task) plan
planned_all P request plan all schedule =
    each_all _ _ (λ planned declared. at_found (λ r. IfOk r P) request.registry.tasks all planned.task.path (Ok planned.task) declared) plan schedule.declared

-- ---- Words

module _ (registry : Registry) where
  -- a request is of the registry, and the fault of refused arguments is not attributed to the device
  abbrev IsAsked : Result Request Fault → Type 0
  IsAsked allowed = IfOk allowed (λ request. request.registry ≡ registry) × IfErr allowed (λ fault. is_of_device fault ≡ false)

  word_blames : (word : Text) → AllByRecursion (λ fault. is_of_device fault ≡ false) (word_faults registry word)
  word_blames word =
      elim (not (is_task_path (absolute word))) as (λ b. AllByRecursion (λ fault. is_of_device fault ≡ false) (cond b (faults.BadName word ∷ [])
      (cond (lacks_project registry word) (faults.UnknownProject word ∷ []) (cond (is_empty (selected_by registry word)) (faults.TaskNotFound word ∷ []) [])))) [
        | true ↦ (refl, tt)
        | false ↦ elim (lacks_project registry word) as (λ b. AllByRecursion (λ fault. is_of_device fault ≡ false) (cond b (faults.UnknownProject word ∷ []) (cond (is_empty (selected_by registry word)) (faults.TaskNotFound word ∷ []) []))) [
          | true ↦ (refl, tt)
          | false ↦ elim (is_empty (selected_by registry word)) as (λ b. AllByRecursion (λ fault. is_of_device fault ≡ false) (cond b (faults.TaskNotFound word ∷ []) [])) [ true ↦ (refl, tt) | false ↦ tt ]
        ]
      ]

  all_both : (P : Fault → Type 0) (xs ys : List Fault) → AllByRecursion P xs → AllByRecursion P ys → AllByRecursion P (xs ++ ys)
  all_both P [] ys one other = other
  all_both P (x ∷ xs) ys one other = (one.0, all_both P xs ys one.1 other)

  words_blame : (words : List Text) → AllByRecursion (λ fault. is_of_device fault ≡ false) (flat_map (word_faults registry) words)
  words_blame [] = tt
  words_blame (word ∷ words) = all_both (λ fault. is_of_device fault ≡ false) (word_faults registry word) (flat_map (word_faults registry) words) (word_blames word) (words_blame words)

  by_first : (request : Request) → request.registry ≡ registry → (reported : List Fault) → AllByRecursion (λ fault. is_of_device fault ≡ false) reported
      → IsAsked (elim (first_of reported) [ None ↦ Ok request | Some fault ↦ Err fault ])
  by_first request of_registry [] blame = (of_registry, tt)
  by_first request of_registry (fault ∷ reported) blame = (tt, blame.0)

  asked_so : (requested excluded : List Text) → IsAsked (request_of registry requested excluded)
  asked_so requested excluded = checked (words_of registry requested)
    where
      checked : (words : List Text) → IsAsked (cond (is_empty words) (Err faults.NoTasks)
          (elim (first_of (flat_map (word_faults registry) (words ++ excluded))) [
            | None ↦ Ok (record { registry = registry; words = words; excluded = flat_map (selected_by registry) excluded })
            | Some fault ↦ Err fault
          ]))
      checked [] = (tt, refl)
      checked (word ∷ words) =
          by_first (record { registry = registry; words = word ∷ words; excluded = flat_map (selected_by registry) excluded }) refl (flat_map (word_faults registry) ((word ∷ words) ++ excluded))
          (words_blame ((word ∷ words) ++ excluded))

  pub request_registry : (requested excluded : List Text) (request : Request) → request_of registry requested excluded ≡ Ok request → request.registry ≡ registry
  request_registry requested excluded request e = subst (λ r. IfOk r (λ (q : Request). q.registry ≡ registry)) e (asked_so requested excluded).0

  pub words_blame_none : (requested excluded : List Text) (fault : Fault) → request_of registry requested excluded ≡ Err fault → is_of_device fault ≡ false
  words_blame_none requested excluded fault e = subst (λ r. IfErr r (λ (f : Fault). is_of_device f ≡ false)) e (asked_so requested excluded).1

-- ---- Refusals

schedule_blames_none : (plan : Plan) (fault : Fault) → IsScheduleFault plan fault → is_of_device fault ≡ false
schedule_blames_none plan fault (has_cycle is) = ap is_of_device is.reported
schedule_blames_none plan fault (has_overlap is) = ap is_of_device is.reported
schedule_blames_none plan fault (has_own_input is) = ap is_of_device is.reported
schedule_blames_none plan fault (is_undeclared is) = ap is_of_device is.reported

-- where no declaration has a fault of the device, no refusal is attributed to it
pub refusal_blames_none : (request : Request) (fault : Fault) → AllByRecursion (λ entry. IfErr entry.1 (λ reported. is_of_device reported ≡ false)) request.registry.tasks
    → IsRefused request fault → is_of_device fault ≡ false
refusal_blames_none request fault none (inl is) = at_found (λ r. IfErr r (λ reported. is_of_device reported ≡ false)) request.registry.tasks none is.path (Err fault) is.at_fault
refusal_blames_none request fault none (inr is) = schedule_blames_none is.0 fault is.2
