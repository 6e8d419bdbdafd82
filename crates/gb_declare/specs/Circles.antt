-- Circles in a part of a table, and in the whole.
use Rattle.std.specs.Prelude.{Bool, true, false, Option, Some, slice_get, ◌≡◌, ◌≢◌, ℕ, ◌<◌, List}
use Rattle.std.specs.Prelude.{length, map, slice_index}
use Rattle.gb_provider.specs.Circle.{IsCircle}
use Rattle.gb_provider.specs.Meanings.{Meanings}
use Rattle.gb_provider.specs.Names.{names_on}
use Rattle.gb_provider.specs.Rules.{rules}
use Rattle.gb_provider.specs.Rounds.{next_awaited}
use Rattle.gb_provider.specs.declared.expression.Expression.{Expression}
use Rattle.gb_provider.specs.declared.expression.Expression.TheVariants.{OfProperty, OfOutput}
use Rattle.gb_declare.specs.Partly.{IsPartOf}

-- the numbers of these in the whole are pairwise distinct
abbrev pub AreDistinct : (ℕ → ℕ) → List ℕ → Type 0
AreDistinct number entries =
    (i j : ℕ) → i < j → j < length entries → number (slice_index entries i) ≢ number (slice_index entries j)

-- A circle that an expression runs into in a part of a table is also one that it runs into in the whole,
-- under the same names.
abbrev pub CirclesStay : {M F Z S : Type 0} → Meanings M F Z S → Type 0
CirclesStay {M} {F} {Z} meanings =
    (number : ℕ → ℕ) (part whole : List (Expression M F Z)) → IsPartOf number part whole
    → (entry : ℕ) (circle : List ℕ) → AreDistinct number circle →
    IsCircle (rules meanings part) entry circle
    → IsCircle (rules meanings whole) (number entry) (map number circle)
    × (names_on whole (map number circle) ≡ names_on part circle)

-- properties and outputs have names
abbrev pub is_named : {M F Z : Type 0} → Option (Expression M F Z) → Bool
is_named (Some (OfProperty property)) = true
is_named (Some (OfOutput output)) = true
is_named other = false

-- Consider the expressions of a part that await others. Those with names occur once. The others come after
-- what they await, unless that has a name.
pub record AreOrdered {M F Z S : Type 0} (meanings : Meanings M F Z S) (number : ℕ → ℕ)
    (part : List (Expression M F Z)) : Type 0 where
  pub once : (x y s t : ℕ) → next_awaited (rules meanings part) x ≡ Some s
      → next_awaited (rules meanings part) y ≡ Some t → is_named (slice_get part x) ≡ true
      → number x ≡ number y → x ≡ y
  pub falls : (x s : ℕ) → next_awaited (rules meanings part) x ≡ Some s → is_named (slice_get part x) ≡ false
      → is_named (slice_get part s) ≡ false → s < x

-- In such a part the entries of a circle have distinct numbers.
abbrev pub CirclesAreDistinct : {M F Z S : Type 0} → Meanings M F Z S → Type 0
CirclesAreDistinct {M} {F} {Z} meanings =
    (number : ℕ → ℕ) (part whole : List (Expression M F Z)) → IsPartOf number part whole
    → AreOrdered meanings number part → (entry : ℕ) (circle : List ℕ) →
    IsCircle (rules meanings part) entry circle → AreDistinct number circle
