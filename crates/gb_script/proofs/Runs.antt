-- Runs of bytes at the front of a text, and where a text may be cut.
use Rattle.std.proofs.Common.{◌≡◌, ℕ, zero, suc, ◌+◌, ◌-◌, ◌<◌, ◌≤◌, Bool, true, false, not, List, [], ◌∷◌, length, get_or, IsUtf8, refl, subst, arith, ◌⊎◌, inl, inr, nat_lt, Some}
use Rattle.std.specs.List.{prefix_len}
use Rattle.std.specs.Str.{IsCharBoundary}
use Rattle.std.proofs.lemmas.Bool.Decides.{nat_tests}
use Rattle.std.proofs.lemmas.Str.{IsCharBoundary-after_ascii}
use Rattle.gb_core.specs.Name.{is_name_byte}
use Rattle.gb_script.specs.declared.token.Sign.{Sign}
use Rattle.gb_script.specs.Lexing.{begins, is_newline}
use Rattle.gb_script.specs.Scanning.{is_plain, sign_of}

pub cases_bool : (b : Bool) → (b ≡ true) ⊎ (b ≡ false)
cases_bool true = inl refl
cases_bool false = inr refl

-- a text may be cut after its first byte, if that is ASCII
pub past_first_boundary : (text : List ℕ) → IsUtf8 text → begins (λ b. nat_lt b 128) text ≡ true → IsCharBoundary text 1
past_first_boundary [] u h = absurd cc
past_first_boundary (b ∷ text) u h = IsCharBoundary-after_ascii (b ∷ text) 0 u (omega arith) (grind (arith, nat_tests))

pub prefix_within : (p : ℕ → Bool) (xs : List ℕ) → prefix_len p xs ≤ length xs
prefix_within p [] = omega arith
prefix_within p (x ∷ xs) =
    elim (cases_bool (p x)) [
      | inl y ↦ rw y (omega (arith, prefix_within p xs))
      | inr y ↦ rw y (omega arith)
    ]

pub prefix_some : (p : ℕ → Bool) (xs : List ℕ) → begins p xs ≡ true → 0 < prefix_len p xs
prefix_some p [] h = absurd cc
prefix_some p (x ∷ xs) h = rw h (omega arith)

pub prefix_passes : (p : ℕ → Bool) (xs : List ℕ) (i : ℕ) → i < prefix_len p xs → p (get_or xs i 0) ≡ true
prefix_passes p [] i h = absurd (omega arith)
prefix_passes p (x ∷ xs) zero h =
    elim (cases_bool (p x)) [
      | inl y ↦ y
      | inr y ↦ absurd (let none : zero < 0 = rw y at h in omega arith)
    ]
prefix_passes p (x ∷ xs) (suc i) h =
    elim (cases_bool (p x)) [
      | inl y ↦ (let more : suc i < 1 + prefix_len p xs = rw y at h in prefix_passes p xs i (omega arith))
      | inr y ↦ absurd (let none : suc i < 0 = rw y at h in omega arith)
    ]

name_byte_ascii : (b : ℕ) → is_name_byte b ≡ true → b < 128
name_byte_ascii b h = grind (arith, nat_tests)

-- a text may be cut after a word
pub word_boundary : (text : List ℕ) → IsUtf8 text → begins is_name_byte text ≡ true → IsCharBoundary text (prefix_len is_name_byte text)
word_boundary text utf8 h =
    let n = prefix_len is_name_byte text in
    let some : 0 < n = prefix_some is_name_byte text h in
    let last : get_or text (n - 1) 0 < 128 = name_byte_ascii _ (prefix_passes is_name_byte text (n - 1) (omega arith)) in
    let place : n - 1 + 1 ≡ n = omega arith in
    subst (IsCharBoundary text) place (IsCharBoundary-after_ascii text (n - 1) utf8 (omega (arith, prefix_within is_name_byte text)) last)

pub prefix_stops : (p : ℕ → Bool) (xs : List ℕ) → prefix_len p xs < length xs → p (get_or xs (prefix_len p xs) 0) ≡ false
prefix_stops p [] h = absurd (omega arith)
prefix_stops p (x ∷ xs) h =
    elim (cases_bool (p x)) [
      | inl y ↦ (let less : 1 + prefix_len p xs < suc (length xs) = rw y at h in rw (y, one_more (prefix_len p xs)) (prefix_stops p xs (omega arith)))
      | inr y ↦ rw y y
    ]
  where
    one_more : (n : ℕ) → 1 + n ≡ suc n
    one_more n = omega arith

run_boundary : (p : ℕ → Bool) → ((b : ℕ) → p b ≡ false → b < 128) → (text : List ℕ) → IsCharBoundary text (prefix_len p text)
run_boundary p low text =
    (prefix_within p text, λ inside high. absurd (let ascii : get_or text (prefix_len p text) 0 < 128 = low _ (prefix_stops p text inside) in omega arith))

plain_low : (b : ℕ) → is_plain b ≡ false → b < 128
plain_low b h = grind (arith, nat_tests)

-- a text may be cut before a byte that is written otherwise in a text
pub plain_boundary : (text : List ℕ) → IsCharBoundary text (prefix_len is_plain text)
plain_boundary text = run_boundary is_plain plain_low text

newline_low : (b : ℕ) → not (is_newline b) ≡ false → b < 128
newline_low b h = grind (arith, nat_tests)

-- a text may be cut before a newline
pub line_boundary : (text : List ℕ) → IsCharBoundary text (prefix_len (λ b. not (is_newline b)) text)
line_boundary text = run_boundary (λ b. not (is_newline b)) newline_low text

-- a mark is ASCII
pub sign_low : (b : ℕ) (s : Sign) → sign_of b ≡ Some s → b < 128
sign_low b s h = grind (arith, nat_tests)
