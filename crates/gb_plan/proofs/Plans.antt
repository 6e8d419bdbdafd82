-- Queries on a plan, task by task.
use Rattle.std.specs.Prelude.{ℕ, ◌≡◌, ◌<◌, ◌+◌, length, get_or, take, Bool, true, false, cond, ◌&&◌, ◌||◌, List, [], ◌∷◌, ◌++◌, bytes_eq, refl}
use Rattle.std.specs.List.{list_any, filter, flat_map}
use Rattle.std.specs.Cmp.Lexicographic.{bytes_decides}
use Rattle.std.proofs.Common.{sym, ap, ◌∙◌}
use Rattle.std.proofs.lemmas.Grind.{take_at_read}
use Rattle.std.proofs.lemmas.Map.Views.{any-filter_same}
use Rattle.gb_plan.specs.declared.plan.Planned.{Planned}
use Rattle.gb_plan.specs.Task.{Path, has_path}
use Rattle.gb_plan.specs.Graph.{Plan, order, is_scheduled_in, needs_in, finalized_by}
use Rattle.gb_plan.specs.Plans.{needs_at}
use Rattle.gb_plan.proofs.Tests.{any_append, any_map, neither, turned}
use Rattle.gb_plan.proofs.Chains.{order_append}

and_false : (b : Bool) → (b && false) ≡ false
and_false true = refl
and_false false = refl

and_true : (b : Bool) → (b && true) ≡ b
and_true true = refl
and_true false = refl

shared : (t a b : Bool) → ((t && a) || (t && b)) ≡ (t && (a || b))
shared true a b = refl
shared false a b = refl

pub scheduled_is : (plan : Plan) (path : Path) → list_any (λ (planned : Planned). bytes_eq path planned.task.path) plan ≡ is_scheduled_in plan path
scheduled_is plan path = sym (any_map (bytes_eq path) (λ (planned : Planned). planned.task.path) plan)

pub finalized_is : (plan : Plan) (path finalizer : Path)
    → list_any (λ (planned : Planned). bytes_eq path planned.task.path && has_path planned.task.finalizers finalizer) plan ≡ has_path (finalized_by plan finalizer) path
finalized_is [] path finalizer = refl
finalized_is (z ∷ zs) path finalizer =
    elim (has_path z.task.finalizers finalizer) as (λ b. ((bytes_eq path z.task.path && b) || list_any (λ (planned : Planned). bytes_eq path planned.task.path && has_path planned.task.finalizers finalizer) zs)
    ≡ has_path (order (cond b (z ∷ filter (λ (planned : Planned). has_path planned.task.finalizers finalizer) zs) (filter (λ (planned : Planned). has_path planned.task.finalizers finalizer) zs))) path) [
      | true ↦ λ i. and_true (bytes_eq path z.task.path) i || finalized_is zs path finalizer i
      | false ↦ ap (λ b. b || list_any (λ (planned : Planned). bytes_eq path planned.task.path && has_path planned.task.finalizers finalizer) zs) (and_false (bytes_eq path z.task.path)) ∙ finalized_is zs path finalizer
    ]

-- what a task needs, where the other one is in the plan or not
kept : (plan : Plan) (paths : List Path) (other : Path) → has_path (filter (is_scheduled_in plan) paths) other ≡ (is_scheduled_in plan other && has_path paths other)
kept plan paths other = any-filter_same (bytes_eq other) (is_scheduled_in plan) (is_scheduled_in plan other) (λ k e. ap (is_scheduled_in plan) (sym ((bytes_decides other k).0 e))) paths

pub needs_is : (plan : Plan) (path other : Path)
    → (is_scheduled_in plan other && list_any (λ (planned : Planned). bytes_eq planned.task.path path && has_path planned.task.needs other) plan) ≡ has_path (needs_at plan path) other
needs_is plan path other = walk plan
  where
    walk : (zs : List Planned) → (is_scheduled_in plan other && list_any (λ (planned : Planned). bytes_eq planned.task.path path && has_path planned.task.needs other) zs)
        ≡ has_path (flat_map (λ planned. needs_in plan planned.task) (filter (λ planned. bytes_eq planned.task.path path) zs)) other
    walk [] = and_false (is_scheduled_in plan other)
    walk (z ∷ zs) =
        elim (bytes_eq z.task.path path) as (λ b. (is_scheduled_in plan other && ((b && has_path z.task.needs other) || list_any (λ (planned : Planned). bytes_eq planned.task.path path && has_path planned.task.needs other) zs))
        ≡ has_path (flat_map (λ planned. needs_in plan planned.task) (cond b (z ∷ filter (λ planned. bytes_eq planned.task.path path) zs) (filter (λ planned. bytes_eq planned.task.path path) zs))) other) [
          | true ↦
              sym (shared (is_scheduled_in plan other) (has_path z.task.needs other) (list_any (λ (planned : Planned). bytes_eq planned.task.path path && has_path planned.task.needs other) zs))
              ∙ ((λ i. sym (kept plan z.task.needs other) i || walk zs i)
              ∙ sym (any_append (bytes_eq other) (needs_in plan z.task) (flat_map (λ planned. needs_in plan planned.task) (filter (λ planned. bytes_eq planned.task.path path) zs))))
          | false ↦ walk zs
        ]

-- a front of tasks without the path, and one more task of another path
pub none_more : (plan : Plan) (i : ℕ) (path : Path) (z : Planned) → i < length plan → z ≡ get_or plan i z → is_scheduled_in (take i plan) path ≡ false → bytes_eq z.task.path path ≡ false
    → is_scheduled_in (take (i + 1) plan) path ≡ false
none_more plan i path z lt is none differs =
    ap (λ zs. is_scheduled_in zs path) ((take_at_read plan i z lt).1 ∙ ap (λ (v : Planned). take i plan ++ v ∷ []) (sym is))
    ∙ (ap (λ ps. has_path ps path) (order_append (take i plan) (z ∷ []))
    ∙ (any_append (bytes_eq path) (order (take i plan)) (z.task.path ∷ []) ∙ neither (is_scheduled_in (take i plan) path) (bytes_eq path z.task.path || false) none (neither (bytes_eq path z.task.path) false (turned path z.task.path ∙ differs) refl)))
