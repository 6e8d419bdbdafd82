-- Two lists traversed together.
use Rattle.std.proofs.Common.{◌≡◌, ◌≢◌, ℕ, suc, ◌+◌, ◌<◌, Bool, true, false, ◌&&◌, List, [], ◌∷◌, ◌++◌, length, get_or, drop, refl, sym, ap, ap₂, subst, ◌∙◌, arith, add-one, append_assoc}
use Rattle.std.proofs.Math.Seq.{drop-cons}
use Rattle.std.proofs.lemmas.List.{drop_all}
use Rattle.std.specs.Cmp.Lexicographic.{pointwise}
use Rattle.std.specs.List.{AllByRecursion, flat_map, zip}
use Rattle.gb_history.specs.Record.{prints_in}
use Rattle.gb_history.specs.declared.record.OutputRecord.{OutputRecord}
use Rattle.gb_reason.proofs.Elements.{HasOrder}

-- the rest from an index on
rest : {X : Type 0} (xs : List X) (i : ℕ) (x : X) → i < length xs → x ≡ get_or xs i x → drop i xs ≡ x ∷ drop (i + 1) xs
rest xs i x h is = rw add-one (drop-cons xs i x h ∙ ap (λ y. y ∷ drop (suc i) xs) (sym is))

module _ {X : Type 0} (E : X → X → Bool) (xs ys : List X) (i : ℕ) (x y : X) (low : i < length xs) (high : i < length ys)
    (at : x ≡ get_or xs i x) (to : y ≡ get_or ys i y) where
  -- one pair is tested
  pub one_tested : pointwise E (drop i xs) (drop i ys) ≡ (E x y && pointwise E (drop (i + 1) xs) (drop (i + 1) ys))
  one_tested = ap₂ (pointwise E) (rest xs i x low at) (rest ys i y high to)

  pub one_passes : (all : Bool) → all ≡ pointwise E (drop i xs) (drop i ys) → E x y ≡ true → all ≡ pointwise E (drop (i + 1) xs) (drop (i + 1) ys)
  one_passes all so_far here = so_far ∙ one_tested ∙ ap (λ b. b && pointwise E (drop (i + 1) xs) (drop (i + 1) ys)) here

  pub one_fails : (all : Bool) → all ≡ pointwise E (drop i xs) (drop i ys) → E x y ≡ false → all ≡ false
  one_fails all so_far here = so_far ∙ one_tested ∙ ap (λ b. b && pointwise E (drop (i + 1) xs) (drop (i + 1) ys)) here

  -- one pair gives its reasons
  pub one_reported : {Y : Type 0} (f : X × X → List Y) (all out more : List Y) → out ++ flat_map f (zip (drop i xs) (drop i ys)) ≡ all → more ≡ out ++ f (x, y)
      → more ++ flat_map f (zip (drop (i + 1) xs) (drop (i + 1) ys)) ≡ all
  one_reported f all out more so_far here =
      let later = flat_map f (zip (drop (i + 1) xs) (drop (i + 1) ys)) in
      ap (λ l. l ++ later) here ∙ append_assoc out (f (x, y)) later
      ∙ ap₂ (λ a b. out ++ flat_map f (zip a b)) (sym (rest xs i x low at)) (sym (rest ys i y high to)) ∙ so_far

-- lists of different lengths are not the same
pub other_lengths : {X : Type 0} (E : X → X → Bool) (xs ys : List X) → length xs ≢ length ys → pointwise E xs ys ≡ false
other_lengths E [] [] h = absurd (h refl)
other_lengths E [] (y ∷ ys) h = refl
other_lengths E (x ∷ xs) [] h = refl
other_lengths E (x ∷ xs) (y ∷ ys) h =
    ap (λ b. E x y && b) (other_lengths E xs ys (λ same. h (ap suc same))) ∙ never (E x y)
  where
    never : (b : Bool) → (b && false) ≡ false
    never true = refl
    never false = refl

-- at the end of both all pairs have passed
pub all_passed : {X : Type 0} (E : X → X → Bool) (xs ys : List X) (i : ℕ) → length xs ≡ length ys → i ≡ length xs → pointwise E (drop i xs) (drop i ys) ≡ true
all_passed E xs ys i long end =
    ap₂ (pointwise E) (drop_all i xs (omega arith)) (drop_all i ys (omega arith))

pub all_reported : {X Y : Type 0} (f : X × X → List Y) (xs ys : List X) (i : ℕ) → i ≡ length xs → zip (drop i xs) (drop i ys) ≡ []
all_reported f xs ys i end = ap (λ l. zip l (drop i ys)) (drop_all i xs (omega arith))

-- what holds of the rest and of one more
pub all_from : {X : Type 0} (P : X → Type 0) (xs : List X) (i : ℕ) (x : X) → i < length xs → x ≡ get_or xs i x → P x → AllByRecursion P (drop (i + 1) xs)
    → AllByRecursion P (drop i xs)
all_from P xs i x low at here later = subst (AllByRecursion P) (sym (rest xs i x low at)) (here, later)

-- at the end of a list nothing is left
pub all_left : {X : Type 0} (P : X → Type 0) (xs : List X) (i : ℕ) → i ≡ length xs → AllByRecursion P (drop i xs)
all_left P xs i end = subst (AllByRecursion P) (sym (drop_all i xs (omega arith))) tt

pub in_prints : (outputs : List OutputRecord) → AllByRecursion (λ (output : OutputRecord). HasOrder output.prints) outputs → AllByRecursion HasOrder (prints_in outputs)
in_prints [] all = tt
in_prints (output ∷ outputs) all = (all.0, in_prints outputs all.1)
