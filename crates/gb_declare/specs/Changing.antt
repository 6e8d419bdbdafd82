-- A property that is changed in a table, compared with the same property changed in the whole.
use Rattle.std.specs.Prelude.{◌≡◌, ℕ, ◌<◌, List, length, Some, slice_get, slice_set}
use Rattle.gb_provider.specs.Rules.{OperandsWithin}
use Rattle.gb_provider.specs.declared.expression.Expression.{Expression}
use Rattle.gb_provider.specs.declared.expression.Expression.TheVariants.{OfProperty}
use Rattle.gb_provider.specs.declared.expression.Property.{Property}
use Rattle.gb_declare.specs.Partly.{IsPartOf, renamed}

-- no other of the first n has the same number
abbrev pub IsDistinct : (ℕ → ℕ) → ℕ → ℕ → Type 0
IsDistinct number n place = (i : ℕ) → i < n → number i ≡ number place → i ≡ place

-- A part of a table stays a part where a property of it, under a number of its own, is changed in both.
abbrev pub ChangesKeepParts : Type 0 → Type 0 → Type 0 → Type 0
ChangesKeepParts M F Z =
    (number : ℕ → ℕ) (part whole : List (Expression M F Z)) (place : ℕ) (old new : Property)
    → IsPartOf number part whole
    → slice_get part place ≡ Some (OfProperty old)
    → OperandsWithin {M = M} {F = F} {Z = Z} (length part) (OfProperty new)
    → IsDistinct number (length part) place
    → IsPartOf number (slice_set part place (OfProperty new))
    (slice_set whole (number place) (renamed number (OfProperty new)))
