-- Texts, tasks and sites one after another.
use Rattle.std.proofs.Common.{ℕ, zero, suc, ◌≡◌, ◌≢◌, ◌<◌, ◌+◌, Bool, true, false, ◌||◌, List, [], ◌∷◌, ◌++◌, Some, length, get_or, drop, take, map, append-nil, refl, ap, sym, ◌∙◌, append_assoc, arith}
use Rattle.std.specs.Prelude.{◌==◌, Contains, IsTrue, bytes_eq, slice_get}
use Rattle.std.proofs.lemmas.Bool.Decides.{nat_tests}
use Rattle.std.specs.List.{flat_map, list_any}
use Rattle.std.proofs.lemmas.Grind.{flat_map-append}
use Rattle.std.specs.Cmp.Lexicographic.{bytes_decides}
use Rattle.std.proofs.lemmas.List.{length-map, take_more}
use Rattle.std.proofs.lemmas.Option.{slice_get_read}
use Rattle.gb_plan.proofs.Tests.{or_right}
use Rattle.gb_plan.specs.Task.{Path, has_path}

any_at : {X : Type 0} (p : X → Bool) (xs : List X) (i : ℕ) (y : X) → slice_get xs i ≡ Some y → p y ≡ true → list_any p xs ≡ true
any_at p [] i y e h = absurd (cc)
any_at p (x ∷ xs) zero y e h = let same : x ≡ y = cc in ap (λ b. b || list_any p xs) (ap p same ∙ h)
any_at p (x ∷ xs) (suc i) y e h = or_right (p x) (list_any p xs) (any_at p xs i y e h)

-- each of these paths is among them
pub is_there : (paths : List Path) (i : ℕ) (path : Path) → i < length paths → path ≡ get_or paths i path → IsTrue (has_path paths path)
is_there paths i path lt is = any_at (λ other. bytes_eq path other) paths i path (slice_get_read paths (length paths) i path refl lt is) ((bytes_decides path path).1 refl)

-- the rest of a row from one of it on
pub rest_from : {X : Type 0} (xs : List X) (i : ℕ) (x : X) → i < length xs → x ≡ get_or xs i x → drop i xs ≡ x ∷ drop (i + 1) xs
rest_from [] i x low at = absurd (omega (arith, low))
rest_from (y ∷ xs) zero x low at = ap (λ z. z ∷ xs) (sym at)
rest_from (y ∷ xs) (suc i) x low at =
    let next : suc (i + 1) ≡ suc i + 1 = omega arith in
    rest_from xs i x (omega (arith, low)) at ∙ ap (λ n. x ∷ drop n (y ∷ xs)) next

-- what is there so far with one more, and the rest
pub step : {X : Type 0} (before one rest now all : List X) → now ≡ before ++ one → before ++ (one ++ rest) ≡ all → now ++ rest ≡ all
step before one rest now all added so_far = ap (λ t. t ++ rest) added ∙ append_assoc before one rest ∙ so_far

-- ---- Rows without a thing

no_length : {X : Type 0} (xs : List X) → length xs ≡ 0 → xs ≡ []
no_length [] e = refl
no_length (x ∷ xs) e = absurd (cc)

pub empty_if : {X : Type 0} (xs : List X) → true ≡ (length xs == 0) → xs ≡ []
empty_if xs e = let zero_long : length xs ≡ 0 = grind (arith, nat_tests) in no_length xs zero_long

pub full_if : {X : Type 0} (xs : List X) → false ≡ (length xs == 0) → xs ≢ []
full_if xs e is = let none : (length xs == 0) ≡ true = ap (λ (ys : List _). length ys == 0) is in cc

-- ---- Sites

-- what is made of one of a row is among what is made of all
pub contained : {X Y : Type 0} (f : X → Y) (xs : List X) (i : ℕ) (x : X) → i < length xs → x ≡ get_or xs i x → Contains (map f xs) (f x)
contained f [] i x low at = absurd (omega (arith, low))
contained f (y ∷ xs) zero x low at = (0, omega (arith, length-map xs f), ap f (sym at))
contained f (y ∷ xs) (suc i) x low at =
    let later = contained f xs i x (omega (arith, low)) at in
    (suc later.0, omega (arith, later.1), later.2)

-- ---- What is made of each

around : {X : Type 0} (xs : List X) (i : ℕ) (x : X) → i < length xs → x ≡ get_or xs i x → take (i + 1) xs ≡ take i xs ++ x ∷ []
around xs i x low at = take_more xs i x low ∙ ap (λ z. take i xs ++ z ∷ []) (sym at)

-- what is made of those so far, and of one more
pub one_more : {X Y : Type 0} (f : X → List Y) (xs : List X) (i : ℕ) (x : X) → i < length xs → x ≡ get_or xs i x
    → flat_map f (take i xs) ++ f x ≡ flat_map f (take (i + 1) xs)
one_more f xs i x low at =
    sym (ap (flat_map f) (around xs i x low at) ∙ flat_map-append f (take i xs) (x ∷ []) ∙ ap (λ t. flat_map f (take i xs) ++ t) (append-nil (f x)))

-- ---- Texts of several parts

pub four_parts : (old a b c d now : List ℕ) → now ≡ old ++ (a ++ (b ++ (c ++ d))) → now ≡ old ++ (a ++ b ++ c ++ d)
four_parts old a b c d now is = is ∙ simp append_assoc

pub five_parts : (old a b c d e now : List ℕ) → now ≡ old ++ (a ++ (b ++ (c ++ (d ++ e)))) → now ≡ old ++ (a ++ b ++ c ++ d ++ e)
five_parts old a b c d e now is = is ∙ simp append_assoc
