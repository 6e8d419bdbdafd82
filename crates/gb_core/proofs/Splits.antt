-- Texts cut at each byte of a kind.
use Rattle.std.proofs.Common.{◌≡◌, ℕ, true, false, cond, eqb, List, [], ◌∷◌, ◌++◌, refl, ap, sym, ◌∙◌, subst}
use Rattle.std.specs.List.{onto_first, slice_split}
use Rattle.std.proofs.lemmas.Bool.{eq-eqb}

-- a split is never empty
abbrev HasFirst : List (List ℕ) → Type 0
HasFirst parts = (first : List ℕ) × (rest : List (List ℕ)) × (parts ≡ first ∷ rest)

module _ (at : ℕ) where
  abbrev parts_of : List ℕ → List (List ℕ)
  parts_of text = slice_split (λ b. eqb b at) text

  onto_has_first : (c : ℕ) (parts : List (List ℕ)) → HasFirst (onto_first c parts)
  onto_has_first c [] = (c ∷ [], [], refl)
  onto_has_first c (part ∷ parts) = (c ∷ part, parts, refl)

  pub has_first : (text : List ℕ) → HasFirst (parts_of text)
  has_first [] = ([], [], refl)
  has_first (c ∷ text) = elim (eqb c at) as (λ b. HasFirst (cond b ([] ∷ parts_of text) (onto_first c (parts_of text)))) [
    | true ↦ ([], parts_of text, refl)
    | false ↦ onto_has_first c (parts_of text)
  ]

  onto_first-append : (c : ℕ) (parts more : List (List ℕ)) → HasFirst parts → onto_first c (parts ++ more) ≡ onto_first c parts ++ more
  onto_first-append c parts more (first, rest, same) = subst (λ p. onto_first c (p ++ more) ≡ onto_first c p ++ more) (sym same) refl

  -- the parts of two texts around such a byte are those of the one and then those of the other
  pub parts-joined : (prefix back : List ℕ) → parts_of (prefix ++ at ∷ back) ≡ parts_of prefix ++ parts_of back
  parts-joined [] back = ap (λ b. cond b ([] ∷ parts_of back) (onto_first at (parts_of back))) (eq-eqb at at refl)
  parts-joined (c ∷ prefix) back =
      ap (λ parts. cond (eqb c at) ([] ∷ parts) (onto_first c parts)) (parts-joined prefix back)
      ∙ elim (eqb c at) as (λ b. cond b ([] ∷ (parts_of prefix ++ parts_of back)) (onto_first c (parts_of prefix ++ parts_of back)) ≡ cond b ([] ∷ parts_of prefix) (onto_first c (parts_of prefix)) ++ parts_of back) [
        | true ↦ refl
        | false ↦ onto_first-append c (parts_of prefix) (parts_of back) (has_first prefix)
      ]
