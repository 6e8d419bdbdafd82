-- The providers that a workspace keeps are a part of the whole table.
use Rattle.std.specs.Prelude.{ℕ, List}
use Rattle.gb_provider.specs.declared.expression.Expression.{Expression}
use Rattle.gb_declare.specs.Partly.{IsPartOf}

-- by some numbers
abbrev pub IsPart : {M F Z : Type 0} → List (Expression M F Z) → List (Expression M F Z) → Type 0
IsPart part whole = ∥ ((number : ℕ → ℕ) × IsPartOf number part whole) ∥₁
