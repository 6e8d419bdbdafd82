-- The least number for which something holds, found one after another; and what it means for a plan.
use Rattle.std.specs.Prelude.{ℕ, zero, suc, ◌≡◌, ◌≤◌, ◌<◌, ◌+◌, ◌⊎◌, ◌↔◌, ◌&&◌, Bool, true, false, cond, List, [], ◌∷◌, ◌++◌, length, get_or, take, Option, None, Some, Contains, find, nat_lt, option_map, slice_get, IsTrue}
use Rattle.std.specs.List.{flat_map, list_any, zip}
use Rattle.std.proofs.Common.{refl, sym, ap, subst, ◌∙◌, inl, inr, arith, true≢false}
use Rattle.std.proofs.lemmas.Bool.Decides.{nat_tests}
use Rattle.std.proofs.lemmas.List.{get_or-map, take_more}
use Rattle.gb_core.specs.Place.{overlaps}
use Rattle.gb_folder.specs.Files.{Place}
use Rattle.gb_graph.specs.Places.{AreSamePlaces, place_at, places_from, with_places}
use Rattle.gb_graph.specs.declared.places.TaskPlace.{TaskPlace}
use Rattle.gb_graph.proofs.Bridges.{At, any_in, at_get, at_in, at_so, in_at, into_row, of_row, some_in}
use Rattle.gb_graph.proofs.Numbers.{in_back, in_either, in_prefix, in_of, of_in}
use Rattle.gb_semantics.proofs.Common.{none_some, some_same}
use Rattle.gb_plan.proofs.Same.{In}
use Rattle.gb_plan.proofs.Tests.{left_of, not_true, right_of}
use Rattle.gb_plan.specs.Graph.{reads_output_of}
use Rattle.gb_plan.specs.Task.{Path, output_places, roots_of}
use Rattle.gb_plan.specs.declared.plan.Planned.{Planned}
use Rattle.gb_plan.specs.declared.task.FileProperty.{FileProperty}
use Rattle.gb_plan.specs.declared.task.TaskDeclaration.{TaskDeclaration as Task}
use Rattle.gb_predict.specs.Least.{ByOne, IsChanged, IsLeast, IsReadAt, IsReadBy, lesser}
use Rattle.gb_predict.specs.Marks.{changes_for, may_change}
use Rattle.gb_predict.specs.declared.predicted_outcome.Prediction.{Prediction}

pub least_as : (P Q : ℕ → Type 0) → ((n : ℕ) → P n → Q n) → ((n : ℕ) → Q n → P n) → (o : Option ℕ) → IsLeast P o → IsLeast Q o
least_as P Q to from None is = λ n q. is n (from n q)
least_as P Q to from (Some k) is = (to k is.0, λ n q. is.1 n (from n q))

abbrev Either : (ℕ → Type 0) → (ℕ → Type 0) → ℕ → Type 0
Either P Q n = P n ⊎ Q n

least_of : (P Q : ℕ → Type 0) (a b : Option ℕ) → IsLeast P a → IsLeast Q b → IsLeast (Either P Q) (lesser a b)
least_of P Q None None p q = λ n h. elim h [ inl x ↦ p n x | inr y ↦ q n y ]
least_of P Q None (Some b) p q = (inr q.0, λ n h. elim h [ inl x ↦ absurd (p n x) | inr y ↦ q.1 n y ])
least_of P Q (Some a) None p q = (inl p.0, λ n h. elim h [ inl x ↦ p.1 n x | inr y ↦ absurd (q n y) ])
least_of P Q (Some a) (Some b) p q = by (nat_lt b a) refl
  where
    less : (x y z : ℕ) → nat_lt x y ≡ true → y ≤ z → x ≤ z
    less x y z e le = grind (arith, nat_tests)

    not_less : (x y z : ℕ) → nat_lt x y ≡ false → x ≤ z → y ≤ z
    not_less x y z e le = grind (arith, nat_tests)

    by : (t : Bool) → nat_lt b a ≡ t → IsLeast (Either P Q) (cond t (Some b) (Some a))
    by true e = (inr q.0, λ n h. elim h [ inl x ↦ less b a n e (p.1 n x) | inr y ↦ q.1 n y ])
    by false e = (inl p.0, λ n h. elim h [ inl x ↦ p.1 n x | inr y ↦ not_less b a n e (q.1 n y) ])

module _ {X : Type 0} (H : X → ℕ → Type 0) where
  by_push : (xs : List X) (x : X) (n : ℕ) → ByOne H (xs ++ x ∷ []) n → ByOne H xs n ⊎ H x n
  by_push [] x n (inl h) = inr h
  by_push [] x n (inr h) = absurd h
  by_push (y ∷ xs) x n (inl h) = inl (inl h)
  by_push (y ∷ xs) x n (inr h) = elim (by_push xs x n h) [ inl a ↦ inl (inr a) | inr b ↦ inr b ]

  push_by : (xs : List X) (x : X) (n : ℕ) → ByOne H xs n ⊎ H x n → ByOne H (xs ++ x ∷ []) n
  push_by [] x n (inl h) = absurd h
  push_by [] x n (inr h) = inl h
  push_by (y ∷ xs) x n (inl (inl h)) = inl h
  push_by (y ∷ xs) x n (inl (inr h)) = inr (push_by xs x n (inl h))
  push_by (y ∷ xs) x n (inr h) = inr (push_by xs x n (inr h))

  -- one more of a list
  pub least_more : (xs : List X) (i : ℕ) (x : X) (a b : Option ℕ) → i < length xs → x ≡ get_or xs i x → IsLeast (ByOne H (take i xs)) a → IsLeast (H x) b
      → IsLeast (ByOne H (take (i + 1) xs)) (lesser a b)
  least_more xs i x a b low is so_far here =
      subst (λ (ys : List X). IsLeast (ByOne H ys) (lesser a b)) (sym (take_more xs i x low ∙ ap (λ (z : X). take i xs ++ z ∷ []) (sym is)))
      (least_as (Either (ByOne H (take i xs)) (H x)) (ByOne H (take i xs ++ x ∷ [])) (push_by (take i xs) x) (by_push (take i xs) x) (lesser a b)
      (least_of (ByOne H (take i xs)) (H x) a b so_far here))

  pub by_in : (xs : List X) (n : ℕ) → ByOne H xs n → (x : X) × In x xs × H x n
  by_in [] n h = absurd h
  by_in (x ∷ xs) n (inl h) = (x, inl refl, h)
  by_in (x ∷ xs) n (inr h) = let found = by_in xs n h in (found.0, inr found.1, found.2)

  pub in_by : (xs : List X) (x : X) (n : ℕ) → In x xs → H x n → ByOne H xs n
  in_by [] x n at h = absurd at
  in_by (y ∷ xs) x n (inl e) h = inl (subst (λ (z : X). H z n) e h)
  in_by (y ∷ xs) x n (inr at) h = inr (in_by xs x n at h)

-- ---- Outputs by their index in a list

module _ (row : List TaskPlace) (reported : List Prediction) where
  -- that at an index is one which its task may change
  abbrev pub IsChangedAt : ℕ → ℕ → Type 0
  IsChangedAt index number = (at : TaskPlace) × At row index at × IsChanged reported at number

  one_at : {X : Type 0} (xs : List X) (i : ℕ) (x y : X) → At xs i x → At xs i y → x ≡ y
  one_at [] i x y a b = absurd a
  one_at (z ∷ xs) zero x y a b = sym a ∙ b
  one_at (z ∷ xs) (suc i) x y a b = one_at xs i x y a b

  pub changed_at : (index : ℕ) (at : TaskPlace) (o : Option ℕ) → index < length row → at ≡ get_or row index at → IsLeast (IsChanged reported at) o → IsLeast (IsChangedAt index) o
  changed_at index at o low is least =
      let here : At row index at = subst (λ (z : TaskPlace). At row index z) (sym is) (at_so row index at low) in
      least_as (IsChanged reported at) (IsChangedAt index) (λ n h. (at, here, h)) (λ n h. subst (λ (z : TaskPlace). IsChanged reported z n) (one_at row index h.0 at h.1 here) h.2) o least

  place_of : (index : ℕ) (at : TaskPlace) → At row index at → place_at row index ≡ at.place
  place_of index at here =
      let got = at_get row index at at here in
      get_or-map (λ (z : TaskPlace). z.place) row index at [] got.0 ∙ ap (λ (z : TaskPlace). z.place) got.1

  -- the indices of all that overlap a root
  pub root_least : (root : Place) (indices : List ℕ) (o : Option ℕ)
      → ((index : ℕ) → Contains indices index ↔ ((index < length row) × IsTrue (overlaps root (place_at row index))))
      → IsLeast (ByOne IsChangedAt indices) o → IsLeast (IsReadAt row reported root) o
  root_least root indices o found least = least_as (ByOne IsChangedAt indices) (IsReadAt row reported root) to from o least
    where
      to : (n : ℕ) → ByOne IsChangedAt indices n → IsReadAt row reported root n
      to n h =
          let one = by_in IsChangedAt indices n h in
          let at = one.2.0 in
          let there = (found one.0).0 (of_in one.0 indices one.1) in
          (at, of_in at row (at_in row one.0 at one.2.1), subst (λ (p : Place). overlaps root p ≡ true) (place_of one.0 at one.2.1) there.1, one.2.2)

      from : (n : ℕ) → IsReadAt row reported root n → ByOne IsChangedAt indices n
      from n h =
          let at = h.0 in
          let index = in_at row at (in_of row at h.1) in
          let low = (at_get row index.0 at at index.1).0 in
          let over = subst (λ (p : Place). overlaps root p ≡ true) (sym (place_of index.0 at index.1)) h.2 in
          in_by IsChangedAt indices index.0 n (in_of indices index.0 ((found index.0).1 (low, over))) (at, index.1, h.3)

-- ---- The first of a plan

module _ {X : Type 0} (t : X → Bool) where
  abbrev pub Passes : List X → ℕ → Type 0
  Passes xs n = (x : X) × At xs n x × (t x ≡ true)

  abbrev pub FoundAs : List X → Option ℕ → Type 0
  FoundAs xs None = find t xs ≡ None
  FoundAs xs (Some n) = (x : X) × At xs n x × (find t xs ≡ Some x)

  pub find_least : (xs : List X) (o : Option ℕ) → IsLeast (Passes xs) o → FoundAs xs o
  find_least [] None is = refl
  find_least [] (Some n) is = absurd is.0.1
  find_least (x ∷ xs) o is = by (t x) refl o is (find_least xs)
    where
      earlier : (n : ℕ) → suc n ≤ 0 → ⊥
      earlier n le = omega (arith, le)

      less : (n m : ℕ) → suc n ≤ suc m → n ≤ m
      less n m le = omega (arith, le)

      later : (b : Bool) → b ≡ false → (rest : Option X) → cond b (Some x) rest ≡ rest
      later true e rest = absurd (true≢false e)
      later false e rest = refl

      first : (b : Bool) → b ≡ true → (rest : Option X) → cond b (Some x) rest ≡ Some x
      first true e rest = refl
      first false e rest = absurd (true≢false (sym e))

      by : (b : Bool) → t x ≡ b → (o : Option ℕ) → IsLeast (Passes (x ∷ xs)) o → ((p : Option ℕ) → IsLeast (Passes xs) p → FoundAs xs p) → FoundAs (x ∷ xs) o
      by true e None is following = absurd (is 0 (x, refl, e))
      by true e (Some zero) is following = (x, refl, first (t x) e (find t xs))
      by true e (Some (suc n)) is following = absurd (earlier n (is.1 0 (x, refl, e)))
      by false e None is following = later (t x) e (find t xs) ∙ following None (λ n h. is (suc n) h)
      by false e (Some zero) is following = absurd (true≢false (sym is.0.2 ∙ ap t (sym is.0.1) ∙ e))
      by false e (Some (suc n)) is following =
          let found = following (Some n) (is.0, λ m h. less n m (is.1 (suc m) h)) in
          (found.0, found.1, later (t x) e (find t xs) ∙ found.2)

zip_at : {X Y : Type 0} (xs : List X) (ys : List Y) (n : ℕ) (x : X) (y : Y) → At xs n x → At ys n y → At (zip xs ys) n (x, y)
zip_at [] ys n x y a b = absurd a
zip_at (z ∷ xs) [] n x y a b = absurd b
zip_at (z ∷ xs) (w ∷ ys) zero x y a b = λ i. (a i, b i)
zip_at (z ∷ xs) (w ∷ ys) (suc n) x y a b = zip_at xs ys n x y a b

at_zip : {X Y : Type 0} (xs : List X) (ys : List Y) (n : ℕ) (pair : X × Y) → At (zip xs ys) n pair → At xs n pair.0 × At ys n pair.1
at_zip [] ys n pair h = absurd h
at_zip (z ∷ xs) [] n pair h = absurd h
at_zip (z ∷ xs) (w ∷ ys) zero pair h = (ap (λ (p : _ × _). p.0) h, ap (λ (p : _ × _). p.1) h)
at_zip (z ∷ xs) (w ∷ ys) (suc n) pair h = at_zip xs ys n pair h

get_at : {X : Type 0} (xs : List X) (n : ℕ) (x : X) → slice_get xs n ≡ Some x → At xs n x
get_at [] n x e = none_some e
get_at (y ∷ xs) zero x e = some_same e
get_at (y ∷ xs) (suc n) x e = get_at xs n x e

at_slice : {X : Type 0} (xs : List X) (n : ℕ) (x : X) → At xs n x → slice_get xs n ≡ Some x
at_slice [] n x h = absurd h
at_slice (y ∷ xs) zero x h = ap Some h
at_slice (y ∷ xs) (suc n) x h = at_slice xs n x h

in_flat : {X Y : Type 0} (f : X → List Y) (xs : List X) (x : X) (y : Y) → In x xs → In y (f x) → In y (flat_map f xs)
in_flat f [] x y a b = absurd a
in_flat f (z ∷ xs) x y (inl e) b = in_prefix y (f z) (flat_map f xs) (subst (λ w. In y (f w)) e b)
in_flat f (z ∷ xs) x y (inr a) b = in_back y (f z) (flat_map f xs) (in_flat f xs x y a b)

of_flat : {X Y : Type 0} (f : X → List Y) (xs : List X) (y : Y) → In y (flat_map f xs) → (x : X) × In x xs × In y (f x)
of_flat f [] y h = absurd h
of_flat f (x ∷ xs) y h = elim (in_either y (f x) (flat_map f xs) h) [
  | inl here ↦ (x, inl refl, here)
  | inr later ↦ let found = of_flat f xs y later in (found.0, inr found.1, found.2)
]

module _ (plan : List Planned) (row : List TaskPlace) (reported : List Prediction) (task : Task) (same : AreSamePlaces (with_places [] (places_from output_places 0 plan)) row) where
  abbrev t : Planned × Prediction → Bool
  t = changes_for task

  to_pair : (n : ℕ) → IsReadBy row reported task.files n → Passes t (zip plan reported) n
  to_pair n h =
      let property = by_in (λ (p : FileProperty). ByOne (IsReadAt row reported) p.roots) task.files n h in
      let root = by_in (IsReadAt row reported) property.0.roots n property.2 in
      let at = root.2.0 in
      let one = root.2.3.1 in
      let made = of_row output_places plan at ((same at).0 root.2.1) in
      let there : At plan n made.0 = subst (λ k. At plan k made.0) root.2.3.0 made.1 in
      let reads : reads_output_of task made.0.task ≡ true =
      any_in (λ r. list_any (overlaps r) (output_places made.0.task)) (roots_of task) root.0 (in_flat (λ (p : FileProperty). p.roots) task.files property.0 root.0 property.1 root.1)
      (any_in (overlaps root.0) (output_places made.0.task) at.place made.2 root.2.2) in
      ((made.0, one), zip_at plan reported n made.0 one there (get_at reported n one root.2.3.2), both (may_change one) root.2.3.3 reads)
    where
      both : (b : Bool) {c : Bool} → b ≡ true → c ≡ true → (b && c) ≡ true
      both true e f = f
      both false e f = not_true e

  of_pair : (n : ℕ) → Passes t (zip plan reported) n → IsReadBy row reported task.files n
  of_pair n h =
      let planned = h.0.0 in
      let one = h.0.1 in
      let parts = at_zip plan reported n h.0 h.1 in
      let may = left_of (may_change one) (reads_output_of task planned.task) h.2 in
      let reads = right_of (may_change one) (reads_output_of task planned.task) h.2 in
      let root = some_in (λ r. list_any (overlaps r) (output_places planned.task)) (roots_of task) reads in
      let place = some_in (overlaps root.0) (output_places planned.task) root.2 in
      let property = of_flat (λ (p : FileProperty). p.roots) task.files root.0 root.1 in
      let at = into_row output_places plan n planned place.0 parts.0 place.1 in
      in_by (λ (p : FileProperty). ByOne (IsReadAt row reported) p.roots) task.files property.0 n property.1
      (in_by (IsReadAt row reported) property.0.roots root.0 n property.2
      (at.0, (same at.0).1 at.1, subst (λ (p : Place). overlaps root.0 p ≡ true) (sym at.3) place.2, (at.2, one, at_slice reported n one parts.1, may)))

  -- the first that a task reads and that may change
  pub first_is : (o : Option ℕ) → IsLeast (IsReadBy row reported task.files) o → FoundAs t (zip plan reported) o
  first_is o least = find_least t (zip plan reported) o (least_as (IsReadBy row reported task.files) (Passes t (zip plan reported)) to_pair of_pair o least)

  abbrev path_of : Planned × Prediction → Path
  path_of pair = pair.0.task.path

  pub none_first : IsLeast (IsReadBy row reported task.files) None → option_map path_of (find t (zip plan reported)) ≡ None
  none_first least = ap (option_map path_of) (first_is None least)

  pub first_path : (n : ℕ) (planned : Planned) → planned ≡ get_or plan n planned → IsLeast (IsReadBy row reported task.files) (Some n)
      → option_map path_of (find t (zip plan reported)) ≡ Some planned.task.path
  first_path n planned is least =
      let found = first_is (Some n) least in
      let there = (at_zip plan reported n found.0 found.1).0 in
      ap (option_map path_of) found.2 ∙ ap (λ (p : Planned). Some p.task.path) (sym (at_get plan n found.0.0 planned there).1 ∙ sym is)

  -- it is one of the plan
  pub first_low : (n : ℕ) → IsLeast (IsReadBy row reported task.files) (Some n) → n < length plan
  first_low n least =
      let found = first_is (Some n) least in
      (at_get plan n found.0.0 found.0.0 (at_zip plan reported n found.0 found.1).0).0
