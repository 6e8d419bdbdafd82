-- What a schedule takes from a registry: tasks that are declared, and what they bring with them.
use Rattle.std.specs.Prelude.{◌≡◌, Bool, true, false, cond, ◌||◌, List, [], ◌∷◌, ◌++◌, bytes_eq, refl, Option, Some, None, is_some, Result, Ok, IfOk}
use Rattle.std.specs.List.{AllByRecursion}
use Rattle.std.specs.BTreeSet.{insert_key}
use Rattle.std.specs.Ordering.{match_ordering, is_eq}
use Rattle.std.specs.FinMap.Entries.{find}
use Rattle.std.specs.declared.cmp.Ordering.TheVariants.{Less, Equal, Greater}
use Rattle.std.proofs.Common.{sym, ap, subst, ◌∙◌}
use Rattle.gb_core.specs.Lists.{byte_order}
use Rattle.gb_core.specs.Tasks.{with_tasks}
use Rattle.gb_core.proofs.Found.{tied_same}
use Rattle.gb_report.specs.declared.fault.Fault.{Fault}
use Rattle.gb_plan.specs.declared.plan.Planned.{Planned}
use Rattle.gb_plan.specs.declared.task.TaskDeclaration.{TaskDeclaration}
use Rattle.gb_plan.specs.Task.{Path, has_path, IsShaped}
use Rattle.gb_plan.specs.Graph.{Registry, Request, Plan, declaration_at, brings, brought_by, IsDeclared, IsRegistry, IsSchedule}
use Rattle.gb_plan.proofs.Tests.{each_all, not_true}

-- ---- Tasks by bytes, each once

or_both : (a b : Bool) → (a || b) ≡ (a || a || b)
or_both true b = refl
or_both false b = refl

or_swapped : (a b c : Bool) → (a || (b || c)) ≡ (b || (a || c))
or_swapped true true c = refl
or_swapped true false c = refl
or_swapped false true c = refl
or_swapped false false c = refl

or_inner : (a c : Bool) → (a || c) ≡ (a || (a || c))
or_inner true c = refl
or_inner false c = refl

in_insert : (paths : List Path) (path p : Path) → has_path (insert_key byte_order paths path) p ≡ (bytes_eq p path || has_path paths p)
in_insert [] path p = refl
in_insert (x ∷ paths) path p =
    elim (byte_order path x) as (λ o. byte_order path x ≡ o → has_path (match_ordering o (path ∷ x ∷ paths) (x ∷ paths) (x ∷ insert_key byte_order paths path)) p
    ≡ (bytes_eq p path || (bytes_eq p x || has_path paths p))) [
      | Less ↦ λ _. refl
      | Equal ↦ λ e. or_inner (bytes_eq p x) (has_path paths p) ∙ ap (λ y. bytes_eq p y || (bytes_eq p x || has_path paths p)) (sym (tied_same path x e))
      | Greater ↦ λ _. ap (λ b. bytes_eq p x || b) (in_insert paths path p) ∙ or_swapped (bytes_eq p x) (bytes_eq p path) (has_path paths p)
    ] refl

-- the tasks are those there were, and the others
pub in_with_tasks : (tasks others : List Path) (p : Path) → has_path (with_tasks tasks others) p ≡ (has_path tasks p || has_path others p)
in_with_tasks tasks [] p = nothing_more (has_path tasks p)
  where
    nothing_more : (b : Bool) → b ≡ (b || false)
    nothing_more true = refl
    nothing_more false = refl
in_with_tasks tasks (task ∷ others) p =
    in_with_tasks (insert_key byte_order tasks task) others p
    ∙ ap (λ b. b || has_path others p) (in_insert tasks task p)
    ∙ moved (bytes_eq p task) (has_path tasks p) (has_path others p)
  where
    moved : (a b c : Bool) → (a || b || c) ≡ (b || (a || c))
    moved true true c = refl
    moved true false c = refl
    moved false true c = refl
    moved false false c = refl

-- what the task at a path brings is what it needs and what finalizes it
pub brings_declared : (registry : Registry) (path : Path) (task : TaskDeclaration) → declaration_at registry path ≡ Some (Ok task)
    → (p : Path) → has_path (brings registry path) p ≡ has_path (task.needs ++ task.finalizers) p
brings_declared registry path task declared p =
    in_with_tasks [] (brought_by (declaration_at registry path)) p ∙ ap (λ found. has_path (brought_by found) p) declared

-- ---- Declarations

abbrev entry_or : Result TaskDeclaration Fault → Option (Result TaskDeclaration Fault) → Result TaskDeclaration Fault
entry_or other (Some entry) = entry
entry_or other None = other

-- what holds of each declaration at its path, holds of the one found
pub at_declared : (P : Path → TaskDeclaration → Type 0) (tasks : List (Path × Result TaskDeclaration Fault)) → AllByRecursion (λ entry. IfOk entry.1 (P entry.0)) tasks
    → (path : Path) (task : TaskDeclaration) → find byte_order path tasks ≡ Some (Ok task) → P path task
at_declared P [] all path task e = not_true (ap is_some e)
at_declared P (entry ∷ tasks) all path task e =
    elim (byte_order path entry.0) as (λ o. byte_order path entry.0 ≡ o → cond (is_eq o) (Some entry.1) (find byte_order path tasks) ≡ Some (Ok task) → P path task) [
      | Less ↦ λ _ e. at_declared P tasks all.1 path task e
      | Equal ↦ λ same e. subst (λ p. P p task) (sym (tied_same path entry.0 same)) (subst (λ r. IfOk r (P entry.0)) (ap (entry_or entry.1) e) all.0)
      | Greater ↦ λ _ e. at_declared P tasks all.1 path task e
    ] refl e

-- each task of a schedule is declared as the registry requires
pub planned_declared : (request : Request) (plan : Plan) → IsRegistry request.registry → IsSchedule request plan
    → AllByRecursion (λ (planned : Planned). IsDeclared request.registry planned.task.path planned.task) plan
planned_declared request plan registry schedule =
    each_all _ _ (λ planned declared. at_declared (IsDeclared request.registry) request.registry.tasks registry.declared planned.task.path planned.task declared) plan schedule.declared

-- and has no outputs without actions
pub planned_shaped : (request : Request) (plan : Plan) → IsRegistry request.registry → IsSchedule request plan → AllByRecursion (λ (planned : Planned). IsShaped planned.task) plan
planned_shaped request plan registry schedule = each_all _ _ (λ planned is. is.shaped) plan (planned_declared request plan registry schedule)
