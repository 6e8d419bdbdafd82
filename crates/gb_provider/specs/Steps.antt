-- How steps are made: `map`, `flatMap` and `zip`, by the name of a stored function.
use Rattle.std.specs.Prelude.{◌≡◌, ◌≢◌, ℕ, List, [], ◌∷◌, ◌++◌, length, Option, Some, None, Result, Ok, Err}
use Rattle.gb_provider.specs.declared.fault.StepFault.{StepFault}
use Rattle.gb_provider.specs.declared.fault.StepFault.TheVariants as steps
use Rattle.gb_provider.specs.declared.expression.Node.{Node}
use Rattle.gb_provider.specs.declared.expression.Expression.{Expression}
use Rattle.gb_provider.specs.Called.{Called}
use Rattle.gb_provider.specs.Answers.{Held}

module _ {M F Z S : Type 0} (old : Held M F Z S) where
  -- one more expression, under the next number
  abbrev pub IsAdded : Expression M F Z → Held M F Z S → Node → Type 0
  IsAdded expression new node =
      (node.number ≡ length old.nodes) × (new ≡ record old { nodes = old.nodes ++ expression ∷ [] })

  -- a call is added if the function takes this many arguments; else 32
  abbrev pub IsCallAdded : {X : Type 0} → (Called X → Expression M F Z) → (X → ℕ) → List ℕ → List (List ℕ)
      → Held M F Z S → Result Node StepFault → X → Type 0
  IsCallAdded step arity name arguments new (Ok node) function =
      (arity function ≡ length arguments)
      × IsAdded (step (record { name = name; function = function; arguments = arguments })) new node
  IsCallAdded step arity name arguments new (Err steps.UnknownTransform) function = ⊥
  IsCallAdded step arity name arguments new (Err steps.BadArguments) function =
      arity function ≢ length arguments
  IsCallAdded step arity name arguments new (Err steps.OutOfMemory) function = Unit {0}

  -- a step with the function found under the name; 31 if none is found
  abbrev pub IsStep : {X : Type 0} → (Called X → Expression M F Z) → (X → ℕ) → Option X → List ℕ
      → List (List ℕ) → Held M F Z S → Result Node StepFault → Type 0
  IsStep step arity (Some function) name arguments new result =
      IsCallAdded step arity name arguments new result function
  IsStep step arity None name arguments new (Ok node) = ⊥
  IsStep step arity None name arguments new (Err steps.UnknownTransform) = Unit {0}
  IsStep step arity None name arguments new (Err steps.BadArguments) = ⊥
  IsStep step arity None name arguments new (Err steps.OutOfMemory) = Unit {0}
