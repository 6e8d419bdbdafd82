-- A table that is a part of another: a result in the part is the result in the whole.
use Rattle.std.specs.Prelude.{◌≡◌, ◌⊎◌, ℕ, ◌<◌, List, length, Some, None, slice_get}
use Rattle.gb_provider.specs.Rounds.{Rule, Answers, Reads, answer}

module _ {A : Type 0} (size : ℕ) (number : ℕ → ℕ) (Pending : A → Type 0) where
  -- Compares a rule of the part with a rule of the whole. Either it has the same result, unless the result is
  -- pending; or it reads the same operand, by its number in the whole, passes on a pending result, and
  -- continues in the same way with any other.
  abbrev pub IsLike : Rule ℕ A → Rule ℕ A → Type 0
  IsLike (Answers a) rule = Pending a ⊎ (rule ≡ Answers a)
  IsLike (Reads operand next) (Answers a) = ⊥
  IsLike (Reads operand next) (Reads operand' next') =
      (operand < size) × (operand' ≡ number operand) × ((a : A) → Pending a → next a ≡ Answers a)
      × ((a : A) → Pending a ⊎ IsLike (next a) (next' a))

-- each rule of the part is in the whole, by its number there
pub record ArePart {A : Type 0} (number : ℕ → ℕ) (Pending : A → Type 0)
    (part whole : List (Rule ℕ A)) : Type 0 where
  pub like : (entry : ℕ) (rule : Rule ℕ A) → slice_get part entry ≡ Some rule →
      (other : Rule ℕ A) × (slice_get whole (number entry) ≡ Some other)
      × IsLike (length part) number Pending rule other

-- a result in the part is the result in the whole, unless it is pending
abbrev pub PartsAnswer : Type 0 → Type 1
PartsAnswer A =
    (number : ℕ → ℕ) (Pending : A → Type 0) (part whole : List (Rule ℕ A))
    → ArePart number Pending part whole
    → (entry : ℕ) (a : A) → answer part entry ≡ Some a → Pending a ⊎ (answer whole (number entry) ≡ Some a)

-- what never has a result in the part never has one in the whole
abbrev pub PartsAreEndless : Type 0 → Type 1
PartsAreEndless A =
    (number : ℕ → ℕ) (Pending : A → Type 0) (part whole : List (Rule ℕ A))
    → ArePart number Pending part whole
    → (entry : ℕ) → entry < length part → answer part entry ≡ None → answer whole (number entry) ≡ None
