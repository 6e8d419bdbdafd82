-- The names on the circle that is reached from an entry.
use Rattle.std.specs.Prelude.{ℕ, zero, suc, List, [], ◌∷◌, length, not, ◌==◌, take_while, Option, Some, None}
use Rattle.std.specs.Ordering.{min_by_ordering}
use Rattle.gb_provider.specs.Circle.{awaited_after}
use Rattle.gb_provider.specs.Meanings.{Meanings}
use Rattle.gb_provider.specs.Names.{names_on, names_order, round_from}
use Rattle.gb_provider.specs.Rounds.{Rule, next_awaited}
use Rattle.gb_provider.specs.Rules.{rules}
use Rattle.gb_provider.specs.declared.expression.Expression.{Expression}

-- The entries on the path from one: itself, the one that it awaits, and so on, at most `count` of them.
abbrev pub way_from : {A : Type 0} → List (Rule ℕ A) → ℕ → Option ℕ → List ℕ
way_from rules zero entry = []
way_from rules (suc count) None = []
way_from rules (suc count) (Some entry) = entry ∷ way_from rules count (next_awaited rules entry)

-- numbers up to the first repetition of the first one
abbrev pub until_again : List ℕ → List ℕ
until_again [] = []
until_again (first ∷ others) = first ∷ take_while (λ other. not (other == first)) others

-- After as many steps as there are entries the path is on the circle, if it ever reaches one. After as many
-- more it has gone around the circle.
abbrev pub circle_from : {A : Type 0} → List (Rule ℕ A) → ℕ → List ℕ
circle_from rules entry =
    let count = length rules in until_again (way_from rules count (awaited_after rules count entry))

-- the lesser of two lists of names
abbrev pub lesser : List (List ℕ) → List (List ℕ) → List (List ℕ)
lesser a b = min_by_ordering (names_order a b) a b

-- the least of these names and their rotations by less than or equal to `place` positions
abbrev pub least_of : List (List ℕ) → ℕ → List (List ℕ)
least_of names zero = names
least_of names (suc place) = lesser (least_of names place) (round_from names place)

-- the least of all their rotations
abbrev pub least_round : List (List ℕ) → List (List ℕ)
least_round names = least_of names (length names)

-- the names on the circle that is reached, in their least rotation
abbrev pub circle_names : {M F Z S : Type 0} → Meanings M F Z S → List (Expression M F Z) → ℕ
    → List (List ℕ)
circle_names meanings nodes entry = least_round (names_on nodes (circle_from (rules meanings nodes) entry))
