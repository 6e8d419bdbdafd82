-- Keys that wait for one another.
use Rattle.std.specs.Prelude.{◌≡◌, ◌≢◌, ℕ, ◌+◌, ◌-◌, ◌<◌, List, length, Option, Some, slice_get}
use Rattle.std.proofs.Common.{zero, suc}
use Rattle.gb_provider.specs.Rounds.{Rule, and_then, next_awaited}

module _ {K : Type 0} (next_key : K → Option K) where
  -- The key that is reached in so many steps, each to the key that the one before awaits (`next_key`).
  abbrev pub awaited_in : ℕ → K → Option K
  awaited_in zero key = Some key
  awaited_in (suc steps) key = and_then next_key (awaited_in steps key)

  -- The circle that is reached from a key: each key of it awaits the next, and the last the first.
  pub record IsCircleIn (key : K) (circle : List K) : Type 0 where
    pub some : 0 < length circle
    pub reached : (steps : ℕ) × (awaited_in steps key ≡ slice_get circle 0)
    pub next : (i : ℕ) → i + 1 < length circle
        → and_then next_key (slice_get circle i) ≡ slice_get circle (i + 1)
    pub closed : and_then next_key (slice_get circle (length circle - 1)) ≡ slice_get circle 0
    pub different : (i j : ℕ) → i < j → j < length circle → slice_get circle i ≢ slice_get circle j

module _ {A : Type 0} (rules : List (Rule ℕ A)) where
  -- The same of the rules of a table: each entry awaits its first operand that never has an answer.
  abbrev pub awaited_after : ℕ → ℕ → Option ℕ
  awaited_after steps entry = awaited_in (next_awaited rules) steps entry

  abbrev pub IsCircle : ℕ → List ℕ → Type 0
  IsCircle entry circle = IsCircleIn (next_awaited rules) entry circle
