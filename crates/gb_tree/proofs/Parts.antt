-- How many parts a text has.
use Rattle.std.proofs.Common.{arith, suc, ◌≤◌, ◌+◌, ℕ, true, false, cond, eqb, List, [], ◌∷◌, length}
use Rattle.std.specs.List.{onto_first}
use Rattle.gb_core.specs.Place.{segments}

pub segments_within : (text : List ℕ) → length (segments text) ≤ length text + 1
segments_within [] = omega arith
segments_within (c ∷ text) = elim (eqb c 47) as (λ b. length (cond b ([] ∷ segments text) (onto_first c (segments text))) ≤ suc (length text) + 1) [
  | true ↦ omega (arith, segments_within text)
  | false ↦ onto c (segments text) (suc (length text)) (omega (arith, segments_within text))
]
  where
    onto : (c : ℕ) (parts : List (List ℕ)) (n : ℕ) → length parts ≤ n → length (onto_first c parts) ≤ n + 1
    onto c [] n le = omega arith
    onto c (part ∷ parts) n le = omega (arith, le)
