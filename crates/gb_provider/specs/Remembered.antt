-- The answers that providers cache.
use Rattle.std.specs.Prelude.{◌≡◌, ◌≤◌, ◌⊎◌, ℕ, List, [], length, All, Option, Some, None, Result, Ok, Err}
use Rattle.gb_core.specs.declared.value.Value.{Value}
use Rattle.gb_provider.specs.declared.fault.ProviderFault.{ProviderFault}
use Rattle.gb_provider.specs.declared.fault.ProviderFault.TheVariants as faults
use Rattle.gb_provider.specs.declared.expression.Expression.{Expression}
use Rattle.gb_provider.specs.declared.expression.Outcome.{Outcome}
use Rattle.gb_provider.specs.declared.expression.Outcome.TheVariants.{Given, Absent, Refused}
use Rattle.gb_provider.specs.declared.evaluation.State.{State}
use Rattle.gb_provider.specs.declared.produced.Produced.{Produced}
use Rattle.gb_provider.specs.Meanings.{Meanings}
use Rattle.gb_provider.specs.Produced.{carriers}
use Rattle.gb_provider.specs.Rounds.{Rule}
use Rattle.gb_provider.specs.Rules.{OperandsWithin, rules}
use Rattle.gb_provider.specs.Search.{IsSound, known}

-- each operand is an expression of the table
abbrev pub AreWithin : {M F Z : Type 0} → List (Expression M F Z) → Type 0
AreWithin nodes = All (λ node. OperandsWithin (length nodes) node) nodes

-- the first expressions have states, and each answer that is known is right
abbrev pub IsRemembered : {A : Type 0} → List (Rule ℕ A) → List (State A) → Type 0
IsRemembered rules states = (length states ≤ length rules) × IsSound rules states

-- all answers are forgotten, unless that of an entry is not known: then they stay
abbrev pub IsForgotten : {A : Type 0} → ℕ → List (State A) → List (State A) → Type 0
IsForgotten entry old new = (new ≡ []) ⊎ ((new ≡ old) × (known old entry ≡ None))

-- how an answer is returned
abbrev pub IsReported : Option Outcome → Result (Option Value) ProviderFault → Type 0
IsReported answer (Ok (Some value)) = answer ≡ Some (Given value)
IsReported answer (Ok None) = answer ≡ Some Absent
IsReported answer (Err (faults.Circular names)) = ⊥
IsReported answer (Err (faults.Step fault)) = ⊥
IsReported answer (Err faults.NoValue) = ⊥
IsReported answer (Err (faults.Value fault)) = answer ≡ Some (Refused fault)
IsReported answer (Err faults.OutOfMemory) = Unit {0}

-- the invariant of providers: operands are expressions of the table, and cached answers are right
pub record AreKept {M F Z S : Type 0} (meanings : Meanings M F Z S) (nodes : List (Expression M F Z))
    (known_values : List (State Outcome)) (known_producers : List (State (Produced ℕ))) : Type 0 where
  pub within : AreWithin nodes
  pub values : IsRemembered (rules meanings nodes) known_values
  pub producers : IsRemembered (carriers meanings nodes) known_producers
