-- Lists by number, and the tasks of a plan by theirs.
use Rattle.std.proofs.Common.{◌≡◌, ◌<◌, ℕ, zero, suc, Bool, true, false, cond, ◌||◌, ◌&&◌, List, [], ◌∷◌, length, get_or, bytes_eq, ap, sym, subst, ◌∙◌, Contains, refl, Some, option_map, slice_get}
use Rattle.std.specs.List.{list_any, filter, flat_map}
use Rattle.std.specs.Cmp.Lexicographic.{bytes_decides}
use Rattle.std.proofs.lemmas.Option.{slice_get-get_or, slice_get_within, slice_get-map, get_or_from_slice_get}
use Rattle.std.proofs.lemmas.List.{length-map}
use Rattle.gb_plan.specs.declared.plan.Planned.{Planned}
use Rattle.gb_plan.specs.Task.{Path, has_path}
use Rattle.gb_plan.specs.Graph.{order}
use Rattle.gb_plan.proofs.Tests.{not_true, or_right, any_append, itself}
use Rattle.gb_semantics.proofs.Common.{some_same, none_some}
use Rattle.gb_exec.specs.Plans.{path_at}

pub same_truth : (a b : Bool) → (a ≡ true → b ≡ true) → (b ≡ true → a ≡ true) → a ≡ b
same_truth true b f g = sym (f refl)
same_truth false true f g = g refl
same_truth false false f g = refl

pub both_true : (a b : Bool) → a ≡ true → b ≡ true → (a && b) ≡ true
both_true true b e g = g
both_true false b e g = e

-- ---- Elements

pub at_some : {X : Type 0} (p : X → Bool) (xs : List X) → list_any p xs ≡ true → (i : ℕ) × (x : X) × (slice_get xs i ≡ Some x) × (p x ≡ true)
at_some p [] h = not_true h
at_some {X} p (x ∷ xs) h =
    elim (p x) as (λ b. p x ≡ b → (b || list_any p xs) ≡ true → (i : ℕ) × (y : X) × (slice_get (x ∷ xs) i ≡ Some y) × (p y ≡ true)) [
      | true ↦ λ e _. (0, x, refl, e)
      | false ↦ λ _ h. let r = at_some p xs h in (suc r.0, r.1, r.2, r.3)
    ] refl h

pub some_at : {X : Type 0} (p : X → Bool) (xs : List X) (i : ℕ) (x : X) → slice_get xs i ≡ Some x → p x ≡ true → list_any p xs ≡ true
some_at p [] i x is h = none_some is
some_at p (y ∷ xs) zero x is h = ap (λ b. b || list_any p xs) (ap p (some_same is) ∙ h)
some_at p (y ∷ xs) (suc i) x is h = or_right (p y) (list_any p xs) (some_at p xs i x is h)

pub contained : {X : Type 0} (xs : List X) (i : ℕ) (x : X) → slice_get xs i ≡ Some x → Contains xs x
contained xs i x is = (i, slice_get_within xs i x is, get_or_from_slice_get xs i x x is)

pub contains_any : {X : Type 0} (p : X → Bool) (xs : List X) (x : X) → Contains xs x → p x ≡ true → list_any p xs ≡ true
contains_any p xs x c h = some_at p xs c.0 x (slice_get-get_or xs c.0 x c.1 ∙ ap Some c.2) h

-- an element that is not the default is in the list
pub any_default : {X : Type 0} (p : X → Bool) (xs : List X) (i : ℕ) (d : X) → p d ≡ false → p (get_or xs i d) ≡ true → list_any p xs ≡ true
any_default p [] i d none h = not_true (sym none ∙ h)
any_default p (x ∷ xs) zero d none h = ap (λ b. b || list_any p xs) h
any_default p (x ∷ xs) (suc i) d none h = or_right (p x) (list_any p xs) (any_default p xs i d none h)

-- ---- Those that pass a test

pub filtered_at : {X : Type 0} (t q : X → Bool) (xs : List X) → list_any q (filter t xs) ≡ true → (i : ℕ) × (x : X) × (slice_get xs i ≡ Some x) × (t x ≡ true) × (q x ≡ true)
filtered_at t q [] h = not_true h
filtered_at {X} t q (x ∷ xs) h =
    elim (t x) as (λ b. t x ≡ b → list_any q (cond b (x ∷ filter t xs) (filter t xs)) ≡ true → (i : ℕ) × (y : X) × (slice_get (x ∷ xs) i ≡ Some y) × (t y ≡ true) × (q y ≡ true)) [
      | true ↦ λ e h. elim (q x) as (λ c. q x ≡ c → (c || list_any q (filter t xs)) ≡ true → (i : ℕ) × (y : X) × (slice_get (x ∷ xs) i ≡ Some y) × (t y ≡ true) × (q y ≡ true)) [
        | true ↦ λ f _. (0, x, refl, e, f)
        | false ↦ λ _ h. let r = filtered_at t q xs h in (suc r.0, r.1, r.2, r.3, r.4)
      ] refl h
      | false ↦ λ _ h. let r = filtered_at t q xs h in (suc r.0, r.1, r.2, r.3, r.4)
    ] refl h

pub at_filtered : {X : Type 0} (t q : X → Bool) (xs : List X) (i : ℕ) (x : X) → slice_get xs i ≡ Some x → t x ≡ true → q x ≡ true → list_any q (filter t xs) ≡ true
at_filtered t q [] i x is e h = none_some is
at_filtered t q (y ∷ xs) zero x is e h =
    ap (λ b. list_any q (cond b (y ∷ filter t xs) (filter t xs))) (ap t (some_same is) ∙ e) ∙ ap (λ b. b || list_any q (filter t xs)) (ap q (some_same is) ∙ h)
at_filtered t q (y ∷ xs) (suc i) x is e h =
    elim (t y) as (λ b. list_any q (cond b (y ∷ filter t xs) (filter t xs)) ≡ true) [
      | true ↦ or_right (q y) (list_any q (filter t xs)) (at_filtered t q xs i x is e h)
      | false ↦ at_filtered t q xs i x is e h
    ]

pub any_flat : {X Y : Type 0} (p : Y → Bool) (f : X → List Y) (xs : List X) → list_any p (flat_map f xs) ≡ list_any (λ x. list_any p (f x)) xs
any_flat p f [] = refl
any_flat p f (x ∷ xs) = any_append p (f x) (flat_map f xs) ∙ ap (λ b. list_any p (f x) || b) (any_flat p f xs)

-- ---- Paths by number

pub path_is : (plan : List Planned) (number : ℕ) (planned : Planned) → slice_get plan number ≡ Some planned → path_at plan number ≡ planned.task.path
path_is plan number planned is =
    get_or_from_slice_get (order plan) number planned.task.path []
    (slice_get-map (λ (z : Planned). z.task.path) plan number ∙ ap (option_map (λ (z : Planned). z.task.path)) is)

pub in_order : (plan : List Planned) (number : ℕ) → number < length plan → has_path (order plan) (path_at plan number) ≡ true
in_order plan number less =
    some_at (bytes_eq (path_at plan number)) (order plan) number (path_at plan number)
    (slice_get-get_or (order plan) number [] (subst (λ n. number < n) (sym (length-map _ _)) less)) (itself (path_at plan number))

pub of_order : (plan : List Planned) (path : Path) → has_path (order plan) path ≡ true → (number : ℕ) × (number < length plan) × (path_at plan number ≡ path)
of_order plan path h =
    let at = at_some (bytes_eq path) (order plan) h in
    (at.0, subst (λ n. at.0 < n) (length-map _ _) (slice_get_within (order plan) at.0 at.1 at.2), get_or_from_slice_get (order plan) at.0 at.1 [] at.2 ∙ sym ((bytes_decides path at.1).0 at.3))
