-- A change list has each change of a tree, and no other.
use Rattle.std.proofs.Common.{arith, ◌≡◌, ◌≢◌, ℕ, Bool, true, false, true≢false, cond, if◌then◌else◌, inl, inr, List, [], ◌∷◌, ◌++◌, Option, Some, None, is_some, refl, sym, ap, subst, ◌∙◌, bytes_eq}
use Rattle.std.proofs.lemmas.List.Elements.{Contains-append_left, Contains-append_right, Contains-append_cases, Contains-push, Contains-push_cases}
use Rattle.std.specs.List.{Contains, flat_map}
use Rattle.std.specs.Option.{option_or, IsSome}
use Rattle.std.specs.Ordering.{is_eq, eq_by_cmp}
use Rattle.std.specs.Cmp.Lexicographic.{bytes_decides, nat_list_cmp_total}
use Rattle.std.specs.declared.cmp.Ordering.{Ordering}
use Rattle.std.specs.declared.cmp.Ordering.TheVariants.{Less, Equal, Greater}
use Rattle.std.specs.FinMap.Entries.{find-put}
use Rattle.gb_core.specs.Lists.{byte_order}
use Rattle.gb_action.specs.Files.{Tree, file_at}
use Rattle.gb_action.specs.Changes.{change_at, in_order, changes_between, IsChange}
use Rattle.gb_action.specs.declared.change.Change.{Change}
use Rattle.gb_action.specs.declared.change.Change.TheVariants.{Added, Modified, Removed}
use Rattle.gb_core.proofs.Found.{tied_same}

-- ---- Lists

contains_none : {X : Type 0} (x : X) → Contains [] x → ⊥
contains_none x h = omega (arith, h.1)

contains_one : {X : Type 0} (y x : X) → Contains (y ∷ []) x → y ≡ x
contains_one y x h = elim (Contains-push_cases [] y x h) [ inl none ↦ absurd (contains_none x none) | inr is ↦ is ]

contains_first : {X : Type 0} (x : X) (xs : List X) → Contains (x ∷ xs) x
contains_first x xs = Contains-append_left (x ∷ []) xs x (Contains-push [] x)

contains_later : {X : Type 0} (y : X) (xs : List X) (x : X) → Contains xs x → Contains (y ∷ xs) x
contains_later y xs x h = Contains-append_right (y ∷ []) xs x h

from_flat_map : {X A : Type 0} (f : X → List A) (xs : List X) (a : A) → Contains (flat_map f xs) a → (x : X) × Contains (f x) a
from_flat_map f [] a h = absurd (contains_none a h)
from_flat_map f (x ∷ xs) a h = elim (Contains-append_cases (f x) (flat_map f xs) a h) [ inl here ↦ (x, here) | inr later ↦ from_flat_map f xs a later ]

into_flat_map : {X A : Type 0} (f : X → List A) (xs : List X) (x : X) (a : A) → Contains xs x → Contains (f x) a → Contains (flat_map f xs) a
into_flat_map f [] x a h g = absurd (contains_none x h)
into_flat_map f (y ∷ xs) x a h g =
    elim (Contains-append_cases (y ∷ []) xs x h) [
      | inl here ↦ Contains-append_left (f y) (flat_map f xs) a (subst (λ z. Contains (f z) a) (sym (contains_one y x here)) g)
      | inr later ↦ Contains-append_right (f y) (flat_map f xs) a (into_flat_map f xs x a later g)
    ]

-- ---- Files

is_equal : (o : Ordering) → is_eq o ≡ true → o ≡ Equal
is_equal Less e = absurd (true≢false (sym e))
is_equal Equal e = refl
is_equal Greater e = absurd (true≢false (sym e))

found_in : (files : Tree) (path : List ℕ) → IsSome (file_at files path) → (file : List ℕ × List ℕ) × Contains files file × (file.0 ≡ path)
found_in [] path h = absurd (true≢false (sym h))
found_in (file ∷ files) path h = by (eq_by_cmp byte_order path file.0) refl (found_in files path)
  where
    by : (b : Bool) → eq_by_cmp byte_order path file.0 ≡ b → (IsSome (file_at files path) → (entry : List ℕ × List ℕ) × Contains files entry × (entry.0 ≡ path))
        → (entry : List ℕ × List ℕ) × Contains (file ∷ files) entry × (entry.0 ≡ path)
    by true e later = (file, contains_first file files, sym (tied_same path file.0 (is_equal _ e)))
    by false e later =
        let rest = later (ap (λ b. is_some (cond b (Some file.1) (file_at files path))) (sym e) ∙ h) in
        (rest.0, contains_later file files rest.0 rest.1, rest.2)

pub in_order-find : (files : Tree) (path : List ℕ) → file_at (in_order files) path ≡ file_at files path
in_order-find [] path = refl
in_order-find (file ∷ files) path =
    find-put byte_order nat_list_cmp_total path file.0 file.1 (in_order files) ∙ ap (cond (eq_by_cmp byte_order path file.0) (Some file.1)) (in_order-find files path)

pub either-find : (old new : Tree) (path : List ℕ) → file_at (old ++ new) path ≡ option_or (file_at old path) (file_at new path)
either-find [] new path = refl
either-find (file ∷ old) new path =
    elim (eq_by_cmp byte_order path file.0) as (λ b. cond b (Some file.1) (file_at (old ++ new) path) ≡ option_or (cond b (Some file.1) (file_at old path)) (file_at new path)) [
      | true ↦ refl
      | false ↦ either-find old new path
    ]

some_or : {X : Type 0} (a b : Option X) → IsSome b → IsSome (option_or a b)
some_or None b h = h
some_or (Some x) b h = refl

or_some : {X : Type 0} (a b : Option X) → IsSome a → IsSome (option_or a b)
or_some None b h = absurd (true≢false (sym h))
or_some (Some x) b h = refl

same_some : {X : Type 0} (x y : X) → Some x ≡ Some y → x ≡ y
same_some x y e = cc

value : {X : Type 0} (o : Option X) → IsSome o → (x : X) × (o ≡ Some x)
value None h = absurd (true≢false (sym h))
value (Some x) h = (x, refl)

differ : (x y : List ℕ) → x ≢ y → bytes_eq x y ≡ false
differ x y other = by (bytes_eq x y) refl
  where
    by : (b : Bool) → bytes_eq x y ≡ b → bytes_eq x y ≡ false
    by true e = absurd (other ((bytes_decides x y).0 e))
    by false e = e

-- ---- Changes

module _ (old new : Tree) where
  abbrev reported_at : List ℕ × List ℕ → List Change
  reported_at file = change_at file.0 (file_at old file.0) (file_at new file.0)

  -- what is listed for a path is a change
  reported_is : (path : List ℕ) (o n : Option (List ℕ)) → file_at old path ≡ o → file_at new path ≡ n → (change : Change) → Contains (change_at path o n) change → IsChange old new change
  reported_is path None None p q change h = absurd (contains_none change h)
  reported_is path None (Some y) p q change h = subst (IsChange old new) (contains_one _ _ h) (p, ap is_some q)
  reported_is path (Some x) None p q change h = subst (IsChange old new) (contains_one _ _ h) (ap is_some p, q)
  reported_is path (Some x) (Some y) p q change h = by (bytes_eq x y) refl
    where
      by : (b : Bool) → bytes_eq x y ≡ b → IsChange old new change
      by true e = absurd (contains_none change (subst (λ b. Contains (if b then [] else Modified path ∷ []) change) e h))
      by false e =
          let one = subst (λ b. Contains (if b then [] else Modified path ∷ []) change) e h in
          subst (IsChange old new) (contains_one _ _ one)
          (ap is_some p, ap is_some q, λ same. let alike = same_some x y (sym p ∙ same ∙ q) in true≢false (sym ((bytes_decides x y).1 alike) ∙ e))

  reported_by : (path : List ℕ) (change : Change) → IsSome (option_or (file_at old path) (file_at new path)) → Contains (change_at path (file_at old path) (file_at new path)) change
      → Contains (changes_between old new) change
  reported_by path change h g =
      let found = found_in (in_order (old ++ new)) path (ap is_some (in_order-find (old ++ new) path ∙ either-find old new path) ∙ h) in
      into_flat_map reported_at (in_order (old ++ new)) found.0 change found.1 (subst (λ q. Contains (change_at q (file_at old q) (file_at new q)) change) (sym found.2) g)

  pub reported-is_change : (change : Change) → Contains (changes_between old new) change → IsChange old new change
  reported-is_change change h =
      let file = from_flat_map reported_at (in_order (old ++ new)) change h in
      reported_is file.0.0 (file_at old file.0.0) (file_at new file.0.0) refl refl change file.1

  pub is_change-reported : (change : Change) → IsChange old new change → Contains (changes_between old new) change
  is_change-reported (Added path) h =
      let y = value (file_at new path) h.1 in
      reported_by path (Added path) (some_or (file_at old path) (file_at new path) h.1)
      (subst (λ o. Contains (change_at path o (file_at new path)) (Added path)) (sym h.0) (subst (λ n. Contains (change_at path None n) (Added path)) (sym y.1) (contains_first (Added path) [])))
  is_change-reported (Removed path) h =
      let x = value (file_at old path) h.0 in
      reported_by path (Removed path) (or_some (file_at old path) (file_at new path) h.0)
      (subst (λ n. Contains (change_at path (file_at old path) n) (Removed path)) (sym h.1) (subst (λ o. Contains (change_at path o None) (Removed path)) (sym x.1) (contains_first (Removed path) [])))
  is_change-reported (Modified path) h =
      let x = value (file_at old path) h.0 in
      let y = value (file_at new path) h.1 in
      reported_by path (Modified path) (or_some (file_at old path) (file_at new path) h.0)
      (subst (λ n. Contains (change_at path (file_at old path) n) (Modified path)) (sym y.1) (subst (λ o. Contains (change_at path o (Some y.0)) (Modified path)) (sym x.1)
      (subst (λ b. Contains (if b then [] else Modified path ∷ []) (Modified path)) (sym (differ x.0 y.0 (λ same. h.2 (x.1 ∙ ap Some same ∙ sym y.1)))) (contains_first (Modified path) []))))
