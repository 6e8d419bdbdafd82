-- Numbers in lists, and the lists that they represent.
use Rattle.std.specs.Prelude.{ℕ, zero, suc, ◌≡◌, ◌⊎◌, ◌<◌, Bool, true, false, ◌&&◌, ◌||◌, List, [], ◌∷◌, ◌++◌, map, length, get_or, take, drop, bytes_eq, refl, Contains}
use Rattle.std.specs.List.{list_all}
use Rattle.std.specs.Cmp.Lexicographic.{bytes_decides}
use Rattle.std.proofs.Common.{sym, ap, subst, inl, inr, arith}
use Rattle.std.proofs.lemmas.Bool.{cases_eq}
use Rattle.std.proofs.lemmas.List.Elements.{Contains-get_or}
use Rattle.gb_folder.specs.Files.{is_empty}
use Rattle.gb_plan.specs.Task.{Path, has_path}
use Rattle.gb_plan.proofs.Tests.{not_true, not_false, or_right}
use Rattle.gb_plan.proofs.Same.{In}
use Rattle.gb_graph.specs.Order.{IsNext, InOrder, begins, goes_on}
use Rattle.gb_graph.specs.Ranked.{AreDistinct}

-- ---- Of three

pub either_of : {A : Type 0} (a b c : Bool) → (a || b || c) ≡ true → (a ≡ true → A) → (b ≡ true → A) → (c ≡ true → A) → A
either_of true b c e f g h = f refl
either_of false true c e f g h = g refl
either_of false false c e f g h = h e

pub or_first : (a b c : Bool) → a ≡ true → (a || b || c) ≡ true
or_first true b c e = refl
or_first false b c e = not_true e

pub or_second : (a b c : Bool) → b ≡ true → (a || b || c) ≡ true
or_second true b c e = refl
or_second false true c e = refl
or_second false false c e = not_true e

pub or_third : (a b c : Bool) → c ≡ true → (a || b || c) ≡ true
or_third true b c e = refl
or_third false true c e = refl
or_third false false c e = e

pub left_or : (a b : Bool) → a ≡ true → (a || b) ≡ true
left_or true b e = refl
left_or false b e = not_true e

-- ---- Members

pub in_of : {X : Type 0} (xs : List X) (x : X) → Contains xs x → In x xs
in_of [] x (k, lt, e) = absurd (omega (arith, lt))
in_of (y ∷ ys) x (zero, lt, e) = inl (sym e)
in_of (y ∷ ys) x (suc k, lt, e) = inr (in_of ys x (k, omega (arith, lt), e))

pub of_in : {X : Type 0} (x : X) (xs : List X) → In x xs → Contains xs x
of_in x [] i = absurd i
of_in x (y ∷ ys) (inl e) = (0, omega arith, sym e)
of_in x (y ∷ ys) (inr i) = let c = of_in x ys i in (suc c.0, omega (arith, c.1), c.2)

pub in_prefix : {X : Type 0} (z : X) (xs ys : List X) → In z xs → In z (xs ++ ys)
in_prefix z [] ys i = absurd i
in_prefix z (x ∷ xs) ys (inl e) = inl e
in_prefix z (x ∷ xs) ys (inr i) = inr (in_prefix z xs ys i)

pub in_back : {X : Type 0} (z : X) (xs ys : List X) → In z ys → In z (xs ++ ys)
in_back z [] ys i = i
in_back z (x ∷ xs) ys i = inr (in_back z xs ys i)

pub in_either : {X : Type 0} (z : X) (xs ys : List X) → In z (xs ++ ys) → In z xs ⊎ In z ys
in_either z [] ys i = inr i
in_either z (x ∷ xs) ys (inl e) = inl (inl e)
in_either z (x ∷ xs) ys (inr i) = elim (in_either z xs ys i) [ inl j ↦ inl (inr j) | inr j ↦ inr j ]

pub among : (k : ℕ) (ks : List ℕ) → In k ks ⊎ ¬ In k ks
among k [] = inr (λ i. i)
among k (j ∷ js) = elim (cases_eq k j) [
  | inl e ↦ inl (inl e)
  | inr separate ↦ elim (among k js) [
    | inl i ↦ inl (inr i)
    | inr lacks ↦ inr (λ i. elim i [ inl e ↦ separate e | inr later ↦ lacks later ])
  ]
]

-- ---- Lists of what numbers represent

pub of_map : {X : Type 0} (f : ℕ → X) (ks : List ℕ) (y : X) → In y (map f ks) → (k : ℕ) × In k ks × (y ≡ f k)
of_map f [] y i = absurd i
of_map f (k ∷ ks) y (inl e) = (k, inl refl, e)
of_map f (k ∷ ks) y (inr i) = let at = of_map f ks y i in (at.0, inr at.1, at.2)

pub into_map : {X : Type 0} (f : ℕ → X) (ks : List ℕ) (k : ℕ) → In k ks → In (f k) (map f ks)
into_map f [] k i = absurd i
into_map f (j ∷ js) k (inl e) = inl (ap f e)
into_map f (j ∷ js) k (inr i) = inr (into_map f js k i)

pub both : (a b : Bool) → a ≡ true → b ≡ true → (a && b) ≡ true
both true b e g = g
both false b e g = e

pub all_mapped : {X : Type 0} (test : X → Bool) (f : ℕ → X) (ks : List ℕ) → ((k : ℕ) → In k ks → test (f k) ≡ true) → list_all test (map f ks) ≡ true
all_mapped test f [] h = refl
all_mapped test f (k ∷ ks) h = both (test (f k)) (list_all test (map f ks)) (h k (inl refl)) (all_mapped test f ks (λ i j. h i (inr j)))

pub has_mapped : (path : ℕ → Path) (ks : List ℕ) (k : ℕ) → In k ks → has_path (map path ks) (path k) ≡ true
has_mapped path [] k i = absurd i
has_mapped path (j ∷ js) k (inl e) = ap (λ b. b || has_path (map path js) (path k)) ((bytes_decides (path k) (path j)).1 (ap path e))
has_mapped path (j ∷ js) k (inr i) = or_right (bytes_eq (path k) (path j)) (has_path (map path js) (path k)) (has_mapped path js k i)

pub of_mapped : (path : ℕ → Path) (ks : List ℕ) (p : Path) → has_path (map path ks) p ≡ true → (k : ℕ) × In k ks × (p ≡ path k)
of_mapped path [] p h = not_true h
of_mapped path (j ∷ js) p h =
    elim (bytes_eq p (path j)) as (λ b. bytes_eq p (path j) ≡ b → (b || has_path (map path js) p) ≡ true → (k : ℕ) × In k (j ∷ js) × (p ≡ path k)) [
      | true ↦ λ e _. (j, inl refl, (bytes_decides p (path j)).0 e)
      | false ↦ λ _ h. let at = of_mapped path js p h in (at.0, inr at.1, at.2)
    ] refl h

-- ---- Numbers that occur once

pub separate_parts : (xs ys : List ℕ) → AreDistinct (xs ++ ys) → (k : ℕ) → In k xs → In k ys → ⊥
separate_parts [] ys separate k i j = i
separate_parts (x ∷ xs) ys separate k (inl e) j = separate.0 (of_in x (xs ++ ys) (in_back x xs ys (subst (λ v. In v ys) e j)))
separate_parts (x ∷ xs) ys separate k (inr i) j = separate_parts xs ys separate.1 k i j

pub separate_both : (xs ys : List ℕ) → AreDistinct xs → AreDistinct ys → ((k : ℕ) → In k xs → In k ys → ⊥) → AreDistinct (xs ++ ys)
separate_both [] ys a b h = b
separate_both (x ∷ xs) ys a b h = (
  λ c. elim (in_either x xs ys (in_of (xs ++ ys) x c)) [ inl i ↦ a.0 (of_in x xs i) | inr j ↦ h x (inl refl) j ],
  separate_both xs ys a.1 b (λ k i j. h k (inr i) j),
)

pub separate_push : (xs : List ℕ) (x : ℕ) → AreDistinct xs → ¬ Contains xs x → AreDistinct (xs ++ x ∷ [])
separate_push xs x a lacks = separate_both xs (x ∷ []) a (λ c. omega (arith, c.1), tt) (λ k i j. elim j [ inl e ↦ lacks (of_in x xs (subst (λ v. In v xs) e i)) | inr f ↦ f ])

pub in_order_separate : (table : List (List ℕ)) (numbers : List ℕ) → InOrder table numbers → AreDistinct numbers
in_order_separate table numbers begins = tt
in_order_separate table numbers (goes_on {existing = existing} {task = task} order next) = separate_push existing task (in_order_separate table existing order) next.waits

-- ---- Each of an order is the next one

pub same_head : (x y : ℕ) (xs ys : List ℕ) → x ∷ xs ≡ y ∷ ys → x ≡ y
same_head x y xs ys e = ap (λ l. get_or l 0 0) e

pub same_tail : (x y : ℕ) (xs ys : List ℕ) → x ∷ xs ≡ y ∷ ys → xs ≡ ys
same_tail x y xs ys e = ap (λ l. drop 1 l) e

pub not_nil : {A : Type 0} (prefix : List ℕ) (t : ℕ) (back : List ℕ) → [] ≡ prefix ++ t ∷ back → A
not_nil [] t back e = not_false (ap is_empty e)
not_nil (x ∷ prefix) t back e = not_false (ap is_empty e)

last_split : (xs : List ℕ) (x : ℕ) (prefix : List ℕ) (t : ℕ) (back : List ℕ) → xs ++ x ∷ [] ≡ prefix ++ t ∷ back
    → ((prefix ≡ xs) × (t ≡ x)) ⊎ ((more : List ℕ) × (xs ≡ prefix ++ t ∷ more))
last_split [] x [] t back e = inl (refl, sym (same_head x t [] back e))
last_split [] x (f ∷ prefix) t back e = not_nil prefix t back (same_tail x f [] (prefix ++ t ∷ back) e)
last_split (y ∷ ys) x [] t back e = inr (ys, ap (λ h. h ∷ ys) (same_head y t (ys ++ x ∷ []) back e))
last_split (y ∷ ys) x (f ∷ prefix) t back e =
    let head = same_head y f (ys ++ x ∷ []) (prefix ++ t ∷ back) e in
    elim (last_split ys x prefix t back (same_tail y f (ys ++ x ∷ []) (prefix ++ t ∷ back) e)) [
      | inl same ↦ inl (λ i. sym head i ∷ same.0 i, same.1)
      | inr more ↦ inr (more.0, λ i. head i ∷ more.1 i)
    ]

pub next_at : (table : List (List ℕ)) (numbers : List ℕ) → InOrder table numbers → (prefix : List ℕ) (t : ℕ) (back : List ℕ) → numbers ≡ prefix ++ t ∷ back → IsNext table prefix t
next_at table numbers begins prefix t back e = not_nil prefix t back e
next_at table numbers (goes_on {existing = existing} {task = task} order next) prefix t back e = elim (last_split existing task prefix t back e) [
  | inl same ↦ subst (λ fs. IsNext table fs t) (sym same.0) (subst (λ k. IsNext table existing k) (sym same.1) next)
  | inr more ↦ next_at table existing order prefix t more.0 more.1
]

pub grouped : {X : Type 0} (xs : List X) (x : X) (ys : List X) → xs ++ x ∷ ys ≡ (xs ++ x ∷ []) ++ ys
grouped [] x ys = refl
grouped (z ∷ xs) x ys = ap (λ zs. z ∷ zs) (grouped xs x ys)

pub regrouped : {X : Type 0} (xs : List X) (x : X) (ys zs : List X) → (xs ++ x ∷ ys) ++ zs ≡ (xs ++ x ∷ []) ++ (ys ++ zs)
regrouped [] x ys zs = refl
regrouped (w ∷ xs) x ys zs = ap (λ v. w ∷ v) (regrouped xs x ys zs)

-- the element at an index does not occur before it
pub separate_take : (xs : List ℕ) (i d : ℕ) → AreDistinct xs → i < length xs → ¬ Contains (take i xs) (get_or xs i d)
separate_take [] i d separate lt c = omega (arith, lt)
separate_take (x ∷ xs) zero d separate lt c = omega (arith, c.1)
separate_take (x ∷ xs) (suc i) d separate lt c = elim (in_of (x ∷ take i xs) (get_or xs i d) c) [
  | inl e ↦ separate.0 (subst (λ v. Contains xs v) e (Contains-get_or xs i d (omega (arith, lt))))
  | inr j ↦ separate_take xs i d separate.1 (omega (arith, lt)) (of_in (get_or xs i d) (take i xs) j)
]
