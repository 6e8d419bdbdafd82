-- Elements of the reasons of pairs.
use Rattle.std.proofs.Common.{◌≡◌, Bool, true, true≢false, ◌&&◌, inl, inr, List, [], ◌∷◌, ◌++◌, map, refl, sym, ap₂, subst, arith}
use Rattle.std.proofs.lemmas.Bool.{and_parts}
use Rattle.std.proofs.lemmas.List.Elements.{Contains-append_left, Contains-append_right, Contains-append_cases, Contains-push, Contains-push_cases}
use Rattle.std.specs.Cmp.Lexicographic.{pointwise}
use Rattle.std.specs.List.{AllByRecursion, Contains, flat_map, zip}

pub contains_none : {X : Type 0} (x : X) → Contains [] x → ⊥
contains_none x h = omega (arith, h.1)

pub contains_one : {X : Type 0} (y x : X) → Contains (y ∷ []) x → y ≡ x
contains_one y x h = elim (Contains-push_cases [] y x h) [ inl none ↦ absurd (contains_none x none) | inr is ↦ is ]

pub contains_first : {X : Type 0} (x : X) (xs : List X) → Contains (x ∷ xs) x
contains_first x xs = Contains-append_left (x ∷ []) xs x (Contains-push [] x)

pub contains_later : {X : Type 0} (y : X) (xs : List X) (x : X) → Contains xs x → Contains (y ∷ xs) x
contains_later y xs x h = Contains-append_right (y ∷ []) xs x h

-- a list that contains something is not empty
pub none_of : {X : Type 0} (xs : List X) (x : X) → xs ≡ [] → Contains xs x → ⊥
none_of xs x e h = contains_none x (subst (λ (l : List _). Contains l x) e h)

-- two lists that are empty together
pub both_none : {X : Type 0} (xs ys : List X) → xs ++ ys ≡ [] → (xs ≡ []) × (ys ≡ [])
both_none [] ys e = (refl, e)
both_none (x ∷ xs) ys e = absurd (cc)

pub none_mapped : {X Y : Type 0} (f : X → Y) (xs : List X) → map f xs ≡ [] → xs ≡ []
none_mapped f [] e = refl
none_mapped f (x ∷ xs) e = absurd (cc)

-- what maps to an element
pub record Mapped {X Y : Type 0} (f : X → Y) (xs : List X) (y : Y) : Type 0 where
  pub from : X
  pub in_list : Contains xs from
  pub is : f from ≡ y

pub from_map : {X Y : Type 0} (f : X → Y) (xs : List X) (y : Y) → Contains (map f xs) y → Mapped f xs y
from_map f [] y h = absurd (contains_none y h)
from_map f (x ∷ xs) y h = elim (Contains-append_cases (f x ∷ []) (map f xs) y h) [
  | inl here ↦ record { from = x; in_list = contains_first x xs; is = contains_one (f x) y here }
  | inr later ↦
      let m = from_map f xs y later in
      record { from = m.from; in_list = contains_later x xs m.from m.in_list; is = m.is }
]

-- the pair that an element comes from
pub record Reported {X Y : Type 0} (E : X → X → Bool) (f : X × X → List Y) (xs ys : List X) (y : Y) : Type 0 where
  pub old : X
  pub new : X
  pub in_old : Contains xs old
  pub in_new : Contains ys new
  pub declared : E old new ≡ true
  pub reported : Contains (f (old, new)) y

pub from_pairs : {X Y : Type 0} (E : X → X → Bool) (f : X × X → List Y) (xs ys : List X) (y : Y) → pointwise E xs ys ≡ true
    → Contains (flat_map f (zip xs ys)) y → Reported E f xs ys y
from_pairs E f [] ys y e h = absurd (contains_none y h)
from_pairs E f (a ∷ xs) [] y e h = absurd (contains_none y h)
from_pairs E f (a ∷ xs) (b ∷ ys) y e h =
    let parts = and_parts (E a b) (pointwise E xs ys) e in
    elim (Contains-append_cases (f (a, b)) (flat_map f (zip xs ys)) y h) [
      | inl here ↦
          record { old = a; new = b; in_old = contains_first a xs; in_new = contains_first b ys; declared = parts.0; reported = here }
      | inr later ↦
          let t = from_pairs E f xs ys y parts.1 later in
          record {
            old = t.old;
            new = t.new;
            in_old = contains_later a xs t.old t.in_old;
            in_new = contains_later b ys t.new t.in_new;
            declared = t.declared;
            reported = t.reported;
          }
    ]

-- lists without a reason are the same
pub same_pairs : {X Y : Type 0} (E : X → X → Bool) (f : X × X → List Y) (G : X → Type 0)
    → ((x y : X) → G x → G y → E x y ≡ true → f (x, y) ≡ [] → x ≡ y) → (xs ys : List X)
    → AllByRecursion G xs → AllByRecursion G ys → pointwise E xs ys ≡ true → flat_map f (zip xs ys) ≡ [] → xs ≡ ys
same_pairs E f G same [] [] p q e none = refl
same_pairs E f G same [] (b ∷ ys) p q e none = absurd (true≢false (sym e))
same_pairs E f G same (a ∷ xs) [] p q e none = absurd (true≢false (sym e))
same_pairs E f G same (a ∷ xs) (b ∷ ys) p q e none =
    let parts = and_parts (E a b) (pointwise E xs ys) e in
    let nones = both_none (f (a, b)) (flat_map f (zip xs ys)) none in
    ap₂ (λ x (l : List _). x ∷ l) (same a b p.0 q.0 parts.0 nones.0) (same_pairs E f G same xs ys p.1 q.1 parts.1 nones.1)

-- the same lists give no reason
pub none_of_same : {X Y : Type 0} (f : X × X → List Y) → ((x : X) → f (x, x) ≡ []) → (xs : List X) → flat_map f (zip xs xs) ≡ []
none_of_same f none [] = refl
none_of_same f none (x ∷ xs) = ap₂ (λ (a b : List _). a ++ b) (none x) (none_of_same f none xs)

pub own_pairs : {X : Type 0} (E : X → X → Bool) → ((x : X) → E x x ≡ true) → (xs : List X) → pointwise E xs xs ≡ true
own_pairs E own [] = refl
own_pairs E own (x ∷ xs) = ap₂ (λ (a b : Bool). a && b) (own x) (own_pairs E own xs)

-- lists that are declared alike pass the test
pub alike_pairs : {X Y : Type 0} (E : X → X → Bool) (d : X → Y) → ((x y : X) → d x ≡ d y → E x y ≡ true)
    → (xs ys : List X) → map d xs ≡ map d ys → pointwise E xs ys ≡ true
alike_pairs E d alike [] [] e = refl
alike_pairs E d alike [] (b ∷ ys) e = absurd (cc)
alike_pairs E d alike (a ∷ xs) [] e = absurd (cc)
alike_pairs E d alike (a ∷ xs) (b ∷ ys) e =
    let head : d a ≡ d b = cc in
    let rest : map d xs ≡ map d ys = cc in
    ap₂ (λ (x y : Bool). x && y) (alike a b head) (alike_pairs E d alike xs ys rest)
