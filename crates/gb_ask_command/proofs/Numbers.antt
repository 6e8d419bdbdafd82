-- The numbers of those of some tasks that are in a plan.
use Rattle.std.proofs.Common.{ℕ, zero, suc, ◌≡◌, ◌<◌, Bool, true, false, cond, ◌||◌, List, [], ◌∷◌, Option, Some, None, length, map, refl, ap, ap₂, sym, ◌∙◌, arith}
use Rattle.std.specs.Prelude.{bytes_eq, slice_get, slice_index_or, unwrap_or}
use Rattle.std.specs.List.{cons_option, filter, list_any}
use Rattle.std.specs.Cmp.Lexicographic.{bytes_decides}
use Rattle.gb_graph.specs.Ranked.{Numbers, GiveNumbers, number_at, numbers_in}
use Rattle.gb_plan.proofs.Tests.{or_right}
use Rattle.gb_plan.specs.Graph.{Plan, is_scheduled_in, order}
use Rattle.gb_plan.specs.Task.{Path, has_path}
use Rattle.gb_ask_command.specs.Graph.{path_at}

pub any_at : {X : Type 0} (p : X → Bool) (xs : List X) (i : ℕ) (y : X) → slice_get xs i ≡ Some y → p y ≡ true → list_any p xs ≡ true
any_at p [] i y e h = absurd (cc)
any_at p (x ∷ xs) zero y e h = let same : x ≡ y = cc in ap (λ b. b || list_any p xs) (ap p same ∙ h)
any_at p (x ∷ xs) (suc i) y e h = or_right (p x) (list_any p xs) (any_at p xs i y e h)

-- what is found at an index is the path there
at_index : (paths : List Path) (i : ℕ) (path : Path) → i < length paths → slice_index_or paths i [] ≡ path → slice_get paths i ≡ Some path
at_index [] i path lt is = absurd (omega arith)
at_index (first ∷ paths) zero path lt is = ap Some is
at_index (first ∷ paths) (suc i) path lt is = at_index paths i path (omega arith) is

-- a path of the list is at some index
has_index : (paths : List Path) (path : Path) → has_path paths path ≡ true → (i : ℕ) × (i < length paths) × (slice_index_or paths i [] ≡ path)
has_index [] path e = absurd (cc)
has_index (first ∷ paths) path e = by (has_index paths path) (bytes_eq path first) refl e
  where
    by : (has_path paths path ≡ true → (i : ℕ) × (i < length paths) × (slice_index_or paths i [] ≡ path))
        → (b : Bool) → bytes_eq path first ≡ b → (b || has_path paths path) ≡ true → (i : ℕ) × (i < length (first ∷ paths)) × (slice_index_or (first ∷ paths) i [] ≡ path)
    by rest true same e = (zero, omega arith, sym ((bytes_decides path first).0 same))
    by rest false other e = let found = rest e in (suc found.0, omega (arith, found.1), found.2)

-- the paths of the numbers of some tasks are those that are in the plan
pub scheduled_numbers : (plan : Plan) (numbers : Numbers) → GiveNumbers (order plan) numbers → (paths : List Path)
    → map (path_at plan) (numbers_in numbers paths) ≡ filter (is_scheduled_in plan) paths
scheduled_numbers plan numbers predict_build [] = refl
scheduled_numbers plan numbers predict_build (path ∷ paths) = by (scheduled_numbers plan numbers predict_build paths) (number_at numbers path) refl
  where
    in_plan : (number : ℕ) → number_at numbers path ≡ Some number → slice_get (order plan) number ≡ Some path
    in_plan number e = let found = (predict_build path number).0 e in at_index (order plan) number path found.0 found.1

    not_there : number_at numbers path ≡ None → (b : Bool) → is_scheduled_in plan path ≡ b → b ≡ false
    not_there none true is = let found = has_index (order plan) path is in let e : None ≡ Some found.0 = sym none ∙ (predict_build path found.0).1 (found.1, found.2) in absurd (cc)
    not_there none false is = refl

    by : map (path_at plan) (numbers_in numbers paths) ≡ filter (is_scheduled_in plan) paths → (o : Option ℕ) → number_at numbers path ≡ o
        → map (path_at plan) (numbers_in numbers (path ∷ paths)) ≡ filter (is_scheduled_in plan) (path ∷ paths)
    by rest (Some number) is =
        ap (λ o. map (path_at plan) (cons_option o (numbers_in numbers paths))) is
        ∙ ap₂ (λ x xs. x ∷ xs) (ap (λ o. unwrap_or o []) (in_plan number is)) rest
        ∙ sym (ap (λ b. cond b (path ∷ filter (is_scheduled_in plan) paths) (filter (is_scheduled_in plan) paths))
        (any_at (bytes_eq path) (order plan) number path (in_plan number is) ((bytes_decides path path).1 refl)))
    by rest None is =
        ap (λ o. map (path_at plan) (cons_option o (numbers_in numbers paths))) is
        ∙ rest
        ∙ sym (ap (λ b. cond b (path ∷ filter (is_scheduled_in plan) paths) (filter (is_scheduled_in plan) paths)) (not_there is (is_scheduled_in plan path) refl))
