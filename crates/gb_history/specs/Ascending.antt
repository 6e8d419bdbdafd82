-- Strictly ascending keys, stated for neighbours.
use Rattle.std.specs.Prelude.{◌&&◌, ℕ, List, [], ◌∷◌, Bool, true}
use Rattle.std.specs.Ordering.{is_lt}
use Rattle.gb_core.specs.Lists.{byte_order}

-- each key is below the next, and the first is above this one
abbrev pub ascends_from : List ℕ → List (List ℕ) → Bool
ascends_from last [] = true
ascends_from last (key ∷ keys) = is_lt (byte_order last key) && ascends_from key keys

-- each key is below the next
abbrev pub ascends : List (List ℕ) → Bool
ascends [] = true
ascends (key ∷ keys) = ascends_from key keys
