-- The pieces of a text in their order, one after another.
use Rattle.std.proofs.Common.{◌≡◌, ℕ, ◌+◌, ◌-◌, ◌<◌, ◌≤◌, List, [], ◌∷◌, ◌++◌, length, take, drop, refl, sym, ap, subst, ◌∙◌, arith, true, false, Bool, Option, None, Some}
use Rattle.std.proofs.Common.{drop-drop, length-drop, length-append, take_at}
use Rattle.std.specs.Bool.{MatchBool}
use Rattle.std.specs.Option.{MatchOption}
use Rattle.std.specs.Str.Pattern.{FindsText, HasTextAt, LacksTextAt, IsSplitAtFirstMatch}
use Rattle.bstr.specs.Text.{split_at}
use Rattle.bstr.proofs.lemmas.MatchListLemmas.{split_at-next, split_at-end}
use Rattle.memchr.specs.Find.{OccursAt, matches, match_len}
use Rattle.memchr.proofs.lemmas.MatchLemmas.{OccursAt-split, OccursAt-from_part, matches-none, matches-first}

-- the pieces of a text from a place on, if there are more
abbrev pub pieces_from : List ℕ → List ℕ → ℕ → List (List ℕ)
pieces_from text separator at = split_at text (length separator) at (matches text separator at)

abbrev pub IsLeft : List ℕ → List ℕ → Bool → List ℕ → List (List ℕ) → Type 0
IsLeft text separator more rest left = MatchBool more ((at : ℕ) × (at ≤ length text) × (rest ≡ drop at text) × (left ≡ pieces_from text separator at)) (left ≡ [])

module _ (text separator : List ℕ) (some : 0 < length separator) where
  occurs_nowhere : (at k : ℕ) → at ≤ k → LacksTextAt separator (drop at text) (k - at) → ¬ OccursAt text separator k
  occurs_nowhere at k low lacks occurs =
      let back : at + (k - at) ≡ k = omega arith in
      lacks (drop (k + length separator) text) (drop-drop (k - at) at text ∙ ap (λ i. drop i text) back ∙ OccursAt-split text separator k occurs)

  occurs_there : (at i j : ℕ) → HasTextAt separator (drop at text) i j → OccursAt text separator (at + i)
  occurs_there at i j has =
      let here : drop (at + i) text ≡ separator ++ drop j (drop at text) = sym (drop-drop i at text) ∙ has.split in
      let fits : at + i + length separator ≤ length text = omega (arith, some, ap length here, length-drop (at + i) text, length-append separator (drop j (drop at text))) in
      OccursAt-from_part text separator (at + i) fits (ap (take (length separator)) here ∙ take_at separator _ (length separator) refl)

  -- the next piece is the first of those that are left
  next_from : (at : ℕ) → at ≤ length text → (piece : List ℕ) (more : Bool) (rest : List ℕ) (found : Option (ℕ × ℕ)) → FindsText separator (drop at text) found
      → MatchOption found ((piece ≡ drop at text) × (more ≡ false)) (λ q. 0 < q.1 → (piece ≡ take q.0 (drop at text)) × (more ≡ true) × (rest ≡ drop q.1 (drop at text)))
      → (later : List (List ℕ)) × IsLeft text separator more rest later × (pieces_from text separator at ≡ piece ∷ later)
  next_from at inside piece more rest None finds is =
      let none : matches text separator at ≡ [] = matches-none text separator at (λ k low high. occurs_nowhere at k low (finds (k - at) (omega (arith, length-drop at text)))) in (
        [],
        subst (λ b. IsLeft text separator b rest []) (sym is.1) refl,
        ap (split_at text (length separator) at) none ∙ split_at-end text (length separator) at ∙ ap (λ p. p ∷ []) (sym is.0),
      )
  next_from at inside piece more rest (Some (i, j)) finds is =
      let has = finds.1 in
      let ends : j ≡ i + length separator = has.ends in
      let occurs = occurs_there at i j has in
      let fits = occurs.fits in
      let parts = is (omega (arith, some, ends)) in
      let m = length separator in
      let width : at + i + match_len separator ≡ at + i + m = omega (arith, some) in
      let first : matches text separator at ≡ (at + i) ∷ matches text separator (at + i + match_len separator) =
      matches-first text separator at (at + i) (record { low = omega arith; high = omega (arith, fits); before = λ k low high. occurs_nowhere at k low (finds.0 (k - at) (omega arith)) }) occurs in
      let long : at + i - at ≡ i = omega arith in
      let after : at + j ≡ at + i + m = omega (arith, ends) in (
        pieces_from text separator (at + i + m),
        subst (λ b. IsLeft text separator b rest (pieces_from text separator (at + i + m))) (sym parts.1) (at + i + m, fits, parts.2 ∙ drop-drop j at text ∙ ap (λ n. drop n text) after, refl),
        ap (split_at text m at) first ∙ split_at-next text m at (at + i) _
            ∙ ap (λ n. take n (drop at text) ∷ split_at text m (at + i + m) (matches text separator (at + i + match_len separator))) long
            ∙ ap (λ n. take i (drop at text) ∷ split_at text m (at + i + m) (matches text separator n)) width
            ∙ ap (λ p. p ∷ pieces_from text separator (at + i + m)) (sym parts.0),
      )

  pub IsLeft-next : (piece : List ℕ) (more : Bool) (before rest : List ℕ) (left : List (List ℕ)) → IsLeft text separator true before left → IsSplitAtFirstMatch (FindsText separator) before piece more rest
      → (later : List (List ℕ)) × IsLeft text separator more rest later × (left ≡ piece ∷ later)
  IsLeft-next piece more before rest left is cut =
      let at = is.0 in
      let there = subst (λ t. IsSplitAtFirstMatch (FindsText separator) t piece more rest) is.2 cut in
      let step = next_from at is.1 piece more rest there.1.0 there.1.1 there.1.2 in
      (step.0, step.1, is.3 ∙ step.2)
