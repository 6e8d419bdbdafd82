-- The parts of a text before and after the last byte of a kind.
use Rattle.std.proofs.Common.{◌≡◌, ◌≢◌, ℕ, ◌+◌, ◌-◌, ◌<◌, ◌≤◌, true, not, eqb, List, [], length, take, drop, get_or, refl, ap, sym, ◌∙◌, arith, length-drop}
use Rattle.std.specs.List.{after_last, before_last, suffix_len}
use Rattle.std.specs.Str.{NoCharPasses}
use Rattle.std.specs.Str.Pattern.{RFindsChar, SplitsAroundMatch}
use Rattle.std.proofs.lemmas.Bool.{ne_eqb, eq-eqb}
use Rattle.std.proofs.lemmas.Str.{len_utf8_ascii}
use Rattle.std.proofs.lemmas.Str.Pattern.{NoCharPasses-char}
use Rattle.std.proofs.lemmas.List.Sums.{suffix_len_is}
use Rattle.std.proofs.lemmas.List.{get_or-drop}

passes : (c : ℕ) (s : List ℕ) (k : ℕ) → get_or s k 0 ≢ c → not (eqb (get_or s k 0) c) ≡ true
passes c s k h = ap not (ne_eqb (get_or s k 0) c h)

suffix-of : (c : ℕ) (s : List ℕ) (j : ℕ) → j ≤ length s → ((k : ℕ) → j ≤ k → k < length s → get_or s k 0 ≢ c) → (0 < j → get_or s (j - 1) 0 ≡ c) → suffix_len (λ b. not (eqb b c)) s ≡ length s - j
suffix-of c s j within after before =
    suffix_len_is (λ b. not (eqb b c)) s j 0 within (λ k h l. passes c s k (after k h l)) (λ p. ap (λ b. not (eqb b c)) (before p) ∙ ap not (eq-eqb c c refl))

beyond : (c : ℕ) (s : List ℕ) (j : ℕ) → NoCharPasses (λ d. eqb d c) (drop j s) → c < 128 → (k : ℕ) → j ≤ k → k < length s → get_or s k 0 ≢ c
beyond c s j none small k from below e =
    let short : k - j < length (drop j s) = omega (arith, length-drop j s) in
    let same : j + (k - j) ≡ k = omega arith in
    NoCharPasses-char c (drop j s) (k - j) none small short (get_or-drop j s (k - j) 0 ∙ ap (λ n. get_or s n 0) same ∙ e)

-- the text is cut around the last c
pub cut_at_last : (c : ℕ) (s prefix back : List ℕ) → c < 128 → SplitsAroundMatch (RFindsChar c) s prefix back → (prefix ≡ before_last (λ b. eqb b c) s) × (back ≡ after_last (λ b. eqb b c) s)
cut_at_last c s prefix back small (i, j, finds, at_prefix, at_back, order, long_prefix, long_back) =
    let ends : j ≡ i + 1 = finds.1.ends ∙ ap (λ n. i + n) (len_utf8_ascii c small) in
    let within : j ≤ length s = omega arith in
    let count : suffix_len (λ b. not (eqb b c)) s ≡ length s - j =
    suffix-of c s j within (beyond c s j finds.0 small) (λ _. ap (λ n. get_or s (n - 1) 0) ends ∙ ap (λ n. get_or s n 0) (let e : (i + 1) - 1 ≡ i = omega arith in e) ∙ finds.1.byte small) in
    let first : length s - (length s - j) - 1 ≡ i = omega arith in
    let second : length s - (length s - j) ≡ j = omega arith in (
      at_prefix ∙ sym (ap (λ n. take (length s - n - 1) s) count ∙ ap (λ n. take n s) first),
      at_back ∙ sym (ap (λ n. drop (length s - n) s) count ∙ ap (λ n. drop n s) second),
    )

-- there is no c
pub no_last : (c : ℕ) (s : List ℕ) → c < 128 → NoCharPasses (λ d. eqb d c) s → ([] ≡ before_last (λ b. eqb b c) s) × (s ≡ after_last (λ b. eqb b c) s)
no_last c s small none =
    let count : suffix_len (λ b. not (eqb b c)) s ≡ length s - 0 =
    suffix-of c s 0 (omega arith) (λ k h below e. NoCharPasses-char c s k none small below e) (λ p. absurd (omega (arith, p))) in
    let first : length s - (length s - 0) - 1 ≡ 0 = omega arith in
    let second : length s - (length s - 0) ≡ 0 = omega arith in (
      sym (ap (λ n. take (length s - n - 1) s) count ∙ ap (λ n. take n s) first),
      sym (ap (λ n. drop (length s - n) s) count ∙ ap (λ n. drop n s) second),
    )
