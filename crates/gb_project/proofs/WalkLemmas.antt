-- The result of each, one after another.
use Rattle.std.specs.Prelude.{ℕ, suc, ◌+◌, ◌<◌, ◌≤◌, ◌≡◌, Bool, true, false, ◌&&◌, List, [], ◌∷◌, ◌++◌, drop, get_or, length, map, refl, Result, Ok, Err}
use Rattle.std.proofs.Common.{add-one, sym, ap, subst, ◌∙◌, inl, inr}
use Rattle.std.proofs.Math.Seq.{drop-cons}
use Rattle.std.specs.List.{list_all}
use Rattle.std.proofs.lemmas.List.Folds.{list_all-append}
use Rattle.std.proofs.lemmas.List.{append_assoc, append-nil, drop_all}
use Rattle.gb_registry.specs.Source.{Source}
use Rattle.gb_registry.specs.Tables.{Tables}
use Rattle.gb_report.specs.declared.fault.Fault.{Fault}
use Rattle.gb_declare.specs.Realised.{Trouble, and_then, each_of}
use Rattle.gb_project.specs.Over.{Reports}

-- ---- One thing after another

pub then_ok : {X E : Type 0} (r : Result X E) → and_then r (λ x. Ok x) ≡ r
then_ok (Ok x) = refl
then_ok (Err e) = refl

pub then_then : {X Y Z E : Type 0} (r : Result X E) (f : X → Result Y E) (g : Y → Result Z E) → and_then (and_then r f) g ≡ and_then r (λ x. and_then (f x) g)
then_then (Ok x) f g = refl
then_then (Err e) f g = refl

pub then_same : {X Y E : Type 0} (r : Result X E) (f g : X → Result Y E) → ((x : X) → f x ≡ g x) → and_then r f ≡ and_then r g
then_same (Ok x) f g same = same x
then_same (Err e) f g same = refl

-- the results for elements that are made from others
pub each_map : {X Y Z E : Type 0} (f : Y → Result Z E) (h : X → Y) (xs : List X) → each_of (λ x. f (h x)) xs ≡ each_of f (map h xs)
each_map f h [] = refl
each_map f h (x ∷ xs) = ap (λ r. and_then (f (h x)) (λ y. and_then r (λ ys. Ok (y ∷ ys)))) (each_map f h xs)

module _ {X Y E : Type 0} (f : X → Result Y E) where
  -- of all, these are done, and the rest is left
  abbrev pub IsWalked : List X → List Y → List X → Type 0
  IsWalked all done rest = each_of f all ≡ and_then (each_of f rest) (λ ys. Ok (done ++ ys))

  pub walk_begins : (all : List X) → IsWalked all [] all
  walk_begins all = sym (then_ok (each_of f all))

  moved : (y : Y) (done : List Y) (r : Result (List Y) E) → and_then (and_then r (λ ys. Ok (y ∷ ys))) (λ ys. Ok (done ++ ys)) ≡ and_then r (λ ys. Ok ((done ++ y ∷ []) ++ ys))
  moved y done (Ok ys) = ap Ok (sym (append_assoc done (y ∷ []) ys))
  moved y done (Err e) = refl

  pub walk_goes_on : (all : List X) (done : List Y) (x : X) (rest : List X) (y : Y) → IsWalked all done (x ∷ rest) → f x ≡ Ok y → IsWalked all (done ++ y ∷ []) rest
  walk_goes_on all done x rest y walked is =
      walked ∙ ap (λ r. and_then (and_then r (λ y'. and_then (each_of f rest) (λ ys. Ok (y' ∷ ys)))) (λ ys. Ok (done ++ ys))) is ∙ moved y done (each_of f rest)

  pub walk_fails : (all : List X) (done : List Y) (x : X) (rest : List X) (e : E) → IsWalked all done (x ∷ rest) → f x ≡ Err e → each_of f all ≡ Err e
  walk_fails all done x rest e walked is =
      walked ∙ ap (λ r. and_then (and_then r (λ y. and_then (each_of f rest) (λ ys. Ok (y ∷ ys)))) (λ ys. Ok (done ++ ys))) is

  pub walk_ends : (all : List X) (done : List Y) (rest : List X) → rest ≡ [] → IsWalked all done rest → each_of f all ≡ Ok done
  walk_ends all done rest none walked = walked ∙ ap (λ xs. and_then (each_of f xs) (λ ys. Ok (done ++ ys))) none ∙ ap Ok (append-nil done)

-- the fault of one is that of all
module _ {M F Z S A : Type 0} (tables : Tables M F Z S A) (source : Source) {X Y : Type 0} (f : X → Result Y Trouble) where
  pub fails_all : (all : List X) (done : List Y) (x : X) (rest : List X) (fault : Fault) → IsWalked f all done (x ∷ rest) → Reports tables source (f x) (Err fault) → Reports tables source (each_of f all) (Err fault)
  fails_all all done x rest fault walked (inl out) = inl out
  fails_all all done x rest fault walked (inr (trouble, is, reported)) = inr (trouble, walk_fails f all done x rest trouble walked is, reported)

-- the rest of a row at a position in it
pub left_at : {X Y : Type 0} (f : X → Y) (xs : List X) (i : ℕ) (d : X) → i < length xs → map f (drop i xs) ≡ f (get_or xs i d) ∷ map f (drop (i + 1) xs)
left_at f xs i d within =
    let cut : drop i xs ≡ get_or xs i d ∷ drop (i + 1) xs = rw add-one (drop-cons xs i d within) in
    ap (map f) cut

pub none_left : {X Y : Type 0} (f : X → Y) (xs : List X) (i : ℕ) → length xs ≤ i → map f (drop i xs) ≡ []
none_left f xs i past = ap (map f) (drop_all i xs past)

-- ---- Along a row

module _ {Node Y : Type 0} (f : ℕ → Result Y Trouble) (number : Node → ℕ) (row : List Node) (i : ℕ) (d : Node) (within : i < length row) where
  pub row_goes_on : (done : List Y) (y : Y) (more : List Y) → more ≡ done ++ y ∷ [] → IsWalked f (map number row) done (map number (drop i row)) → f (number (get_or row i d)) ≡ Ok y
      → IsWalked f (map number row) more (map number (drop (i + 1) row))
  row_goes_on done y more is walked given =
      subst (λ ys. IsWalked f (map number row) ys (map number (drop (i + 1) row))) (sym is)
      (walk_goes_on f (map number row) done (number (get_or row i d)) (map number (drop (i + 1) row)) y
      (subst (IsWalked f (map number row) done) (left_at number row i d within) walked) given)

  pub row_fails : {M F Z S A : Type 0} (tables : Tables M F Z S A) (source : Source) (done : List Y) (fault : Fault) → IsWalked f (map number row) done (map number (drop i row)) → Reports tables source (f (number (get_or row i d))) (Err fault)
      → Reports tables source (each_of f (map number row)) (Err fault)
  row_fails tables source done fault walked reported =
      fails_all tables source f (map number row) done (number (get_or row i d)) (map number (drop (i + 1) row)) fault
      (subst (IsWalked f (map number row) done) (left_at number row i d within) walked) reported

-- the same by the item at that position
pub item_left : {X Y : Type 0} (f : X → Y) (xs : List X) (i : ℕ) (x : X) → i < length xs → x ≡ get_or xs i x → map f (drop i xs) ≡ f x ∷ map f (drop (i + 1) xs)
item_left f xs i x within is = left_at f xs i x within ∙ ap (λ y. f y ∷ map f (drop (i + 1) xs)) (sym is)

-- ---- All of them

with_true : (b : Bool) → (b && true) ≡ b
with_true true = refl
with_true false = refl

pub one_more_holds : (truths : List Bool) (all holds : Bool) → list_all (λ truth. truth) truths ≡ all → list_all (λ truth. truth) (truths ++ holds ∷ []) ≡ (all && holds)
one_more_holds truths all holds is =
    list_all-append (λ truth. truth) truths (holds ∷ []) ∙ ap (λ a. a && (holds && true)) is ∙ ap (λ h. all && h) (with_true holds)

-- one less is left after an item
pub one_less : {X : Type 0} (xs : List X) (i : ℕ) (d : X) → i < length xs → length (drop i xs) ≡ suc (length (drop (i + 1) xs))
one_less xs i d within =
    let cut : drop i xs ≡ get_or xs i d ∷ drop (i + 1) xs = rw add-one (drop-cons xs i d within) in
    ap length cut

pub empty_of : {X : Type 0} (xs : List X) → length xs ≡ 0 → xs ≡ []
empty_of [] none = refl
empty_of (x ∷ xs) none = absurd (let no_way : ⊥ = cc in no_way)
