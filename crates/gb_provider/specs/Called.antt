-- Calls of stored functions.
use Rattle.std.specs.Prelude.{ℕ, List}

-- a stored function with its name and its arguments
pub record Called (S : Type 0) : Type 0 where
  pub name : List ℕ
  pub function : S
  pub arguments : List (List ℕ)
