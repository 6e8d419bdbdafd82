-- A part of a table, extended by one expression.
use Rattle.std.specs.Prelude.{◌≡◌, ℕ, true, List, [], ◌∷◌, ◌++◌, length, Some}
use Rattle.std.specs.Prelude.{slice_get, nat_lt, if◌then◌else◌}
use Rattle.gb_provider.specs.Rules.{OperandsWithin, is_output, output_place}
use Rattle.gb_provider.specs.declared.expression.Expression.{Expression}
use Rattle.gb_provider.specs.declared.fault.Chosen.{Chosen}
use Rattle.gb_declare.specs.Partly.{IsPartOf, renamed}

-- the numbers of the first n, and one for the next
abbrev pub extended : (ℕ → ℕ) → ℕ → ℕ → ℕ → ℕ
extended number n next entry = if nat_lt entry n then number entry else next

-- A part extended by one expression of the whole, with its operands in the part, is again a part. If the
-- expression is an output, the part has this output.
abbrev pub PartGrows : Type 0 → Type 0 → Type 0 → Type 0
PartGrows M F Z =
    (number : ℕ → ℕ) (part whole : List (Expression M F Z)) → IsPartOf number part whole
    → (e : Expression M F Z) (place : ℕ) → OperandsWithin (length part) e →
    slice_get whole place ≡ Some (renamed number e)
    → ((chosen : Chosen) → is_output chosen e ≡ true → output_place whole chosen ≡ Some place) →
    IsPartOf (extended number (length part) place) (part ++ e ∷ []) whole
