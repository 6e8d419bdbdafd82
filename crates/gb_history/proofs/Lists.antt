-- Loops that map a list, an element at a time.
use Rattle.std.proofs.Common.{◌≡◌, ℕ, zero, suc, ◌+◌, ◌<◌, List, [], ◌∷◌, ◌++◌, length, get_or, take, map, refl, sym, ap, ap₂, ◌∙◌, subst, arith, add-one}
use Rattle.std.specs.List.{AllByRecursion}
use Rattle.std.specs.Prelude.{⊤, IsSomeAnd, Option, Some, None, option_map, Result, Ok, Err, IsErrAnd, MatchResult, OnOk, OnErr}
use Rattle.hex.specs.Hex.{IsBytes}
use Rattle.std.proofs.Math.Seq.{take-suc}
use Rattle.std.proofs.lemmas.List.{map-append}
use Rattle.serde_json.specs.Data.{Data}
use Rattle.serde_json.specs.View.{items_of}

pub map_take_more : {X Y : Type 0} (f : X → Y) (xs : List X) (i : ℕ) (d : X) → i < length xs → map f (take (i + 1) xs) ≡ map f (take i xs) ++ f (get_or xs i d) ∷ []
map_take_more f xs i d h = rw add-one (ap (map f) (take-suc xs i d h) ∙ map-append f (take i xs) _)

-- one more element written
pub map_more : {X Y Z : Type 0} (v : Z → Y) (f : X → Y) (out : List Z) (xs : List X) (i : ℕ) (z : Z) (d : X) → i < length xs
    → map v out ≡ map f (take i xs) → v z ≡ f (get_or xs i d) → map v (out ++ z ∷ []) ≡ map f (take (i + 1) xs)
map_more v f out xs i z d h done here = map-append v out _ ∙ ap₂ (λ (a b : List _). a ++ b) done (ap (λ y. y ∷ []) here) ∙ sym (map_take_more f xs i d h)

pub AllByRecursion-push : {Y : Type 0} (P : Y → Type 0) (ys : List Y) (y : Y) → AllByRecursion P ys → P y → AllByRecursion P (ys ++ y ∷ [])
AllByRecursion-push P [] y all p = (p, tt)
AllByRecursion-push P (x ∷ ys) y all p = (all.0, AllByRecursion-push P ys y all.1 p)

pub all_more : {X Y : Type 0} (P : Y → Type 0) (f : X → Y) (xs : List X) (i : ℕ) (d : X) → i < length xs
    → AllByRecursion P (map f (take i xs)) → P (f (get_or xs i d)) → AllByRecursion P (map f (take (i + 1) xs))
all_more P f xs i d h done here = subst (AllByRecursion P) (sym (map_take_more f xs i d h)) (AllByRecursion-push P _ _ done here)

-- the element that a loop over the images reads next
pub record Next {X V Y : Type 0} (v : V → Y) (f : X → Y) (P : X → Type 0) (vs : List V) (xs : List X) (i : ℕ) (d : V) : Type 0 where
  pub value : X
  pub is : v (get_or vs i d) ≡ f value
  pub holds : P value
  pub more : take (suc i) xs ≡ take i xs ++ value ∷ []

pub next : {X V Y : Type 0} (v : V → Y) (f : X → Y) (P : X → Type 0) (vs : List V) (xs : List X) (i : ℕ) (d : V)
    → map v vs ≡ map f xs → AllByRecursion P xs → i < length vs → Next v f P vs xs i d
next v f P [] xs i d e all h = absurd (omega arith)
next v f P (w ∷ vs) [] i d e all h = absurd (cc)
next v f P (w ∷ vs) (x ∷ xs) zero d e all h = record { value = x; is = cc; holds = all.0; more = refl }
next v f P (w ∷ vs) (x ∷ xs) (suc i) d e all h =
    let rest : map v vs ≡ map f xs = cc in
    let n = next v f P vs xs i d rest all.1 (omega arith) in
    record { value = n.value; is = n.is; holds = n.holds; more = ap (λ l. x ∷ l) n.more }

pub same_length : {X V Y : Type 0} (v : V → Y) (f : X → Y) (vs : List V) (xs : List X) → map v vs ≡ map f xs → length vs ≡ length xs
same_length v f [] [] e = refl
same_length v f [] (x ∷ xs) e = absurd (cc)
same_length v f (w ∷ vs) [] e = absurd (cc)
same_length v f (w ∷ vs) (x ∷ xs) e = let rest : map v vs ≡ map f xs = cc in ap suc (same_length v f vs xs rest)

-- what a JSON list has is in the list of its items
pub items_of_inj : (xs ys : List Data) → items_of xs ≡ items_of ys → xs ≡ ys
items_of_inj [] [] e = refl
items_of_inj [] (b ∷ ys) e = absurd (cc)
items_of_inj (a ∷ xs) [] e = absurd (cc)
items_of_inj (a ∷ xs) (b ∷ ys) e =
    let rest : items_of xs ≡ items_of ys = cc in
    let head : a ≡ b = cc in
    ap₂ (λ x (l : List Data). x ∷ l) head (items_of_inj xs ys rest)

pub map_twice : {X Y Z : Type 0} (f : X → Y) (g : Y → Z) (xs : List X) → map (λ x. g (f x)) xs ≡ map g (map f xs)
map_twice f g [] = refl
map_twice f g (x ∷ xs) = ap (λ l. g (f x) ∷ l) (map_twice f g xs)

pub all_true : {X : Type 0} (xs : List X) → AllByRecursion (λ _. ⊤) xs
all_true [] = tt
all_true (x ∷ xs) = (tt, all_true xs)

-- one more element read
pub read_more : {X Z : Type 0} (v : Z → X) (out : List Z) (xs : List X) (i : ℕ) (z : Z) (x : X)
    → map v out ≡ take i xs → v z ≡ x → take (suc i) xs ≡ take i xs ++ x ∷ [] → map v (out ++ z ∷ []) ≡ take (i + 1) xs
read_more v out xs i z x done here more = rw add-one (map-append v out _ ∙ ap₂ (λ (a b : List _). a ++ b) done (ap (λ y. y ∷ []) here) ∙ sym more)

-- a list that was found under `items_of` is that list
pub some_such : {A : Type 0} (g : A → List Data) (r : Option A) (items : List Data) → option_map (λ a. items_of (g a)) r ≡ Some (items_of items) → IsSomeAnd r (λ a. g a ≡ items)
some_such g None items e = absurd (cc)
some_such g (Some a) items e = let same : items_of (g a) ≡ items_of items = cc in items_of_inj _ _ same

pub IsBytes-all : (xs : List ℕ) → AllByRecursion (λ b. b < 256) xs → IsBytes xs
IsBytes-all [] all i = omega arith
IsBytes-all (x ∷ xs) all zero = all.0
IsBytes-all (x ∷ xs) all (suc i) = IsBytes-all xs all.1 i

pub read_one_more : {X : Type 0} (out xs : List X) (i : ℕ) (z : X) (x : X)
    → out ≡ take i xs → z ≡ x → take (suc i) xs ≡ take i xs ++ x ∷ [] → out ++ z ∷ [] ≡ take (i + 1) xs
read_one_more out xs i z x done here more = rw add-one (ap₂ (λ (a b : List _). a ++ b) done (ap (λ y. y ∷ []) here) ∙ sym more)

pub err_passes : {A E : Type 0} (r : Result A E) (P : A → Type 0) (Q : E → Type 0) → IsErrAnd r Q → MatchResult r P Q
err_passes (Ok a) P Q h = absurd h
err_passes (Err e) P Q h = h

pub either_result : {T E : Type 0} (r : Result T E) {A B P : Type 0} → OnOk r A → OnErr r B → (A → P) → (B → P) → P
either_result (Ok t) a b f g = f a
either_result (Err e) a b f g = g b

pub all_both : {X : Type 0} (P Q : X → Type 0) (xs : List X) → AllByRecursion P xs → AllByRecursion Q xs → AllByRecursion (λ x. P x × Q x) xs
all_both P Q [] p q = tt
all_both P Q (x ∷ xs) p q = ((p.0, q.0), all_both P Q xs p.1 q.1)

pub result_same : {A E : Type 0} (r : Result A E) (a : A) (Q : E → Type 0) → r ≡ Ok a → MatchResult r (λ got. got ≡ a) Q
result_same (Ok b) a Q e = let same : b ≡ a = cc in same
result_same (Err e) a Q h = absurd (cc)

pub all_weaker : {X : Type 0} (P Q : X → Type 0) → ((x : X) → P x → Q x) → (xs : List X) → AllByRecursion P xs → AllByRecursion Q xs
all_weaker P Q f [] all = tt
all_weaker P Q f (x ∷ xs) all = (f x all.0, all_weaker P Q f xs all.1)
