-- The results of the calls to providers.
use Rattle.std.specs.Prelude.{◌≡◌, ◌≢◌, ℕ, Bool, false, List, length, Option, Some, None, Result, Ok, Err}
use Rattle.gb_core.specs.declared.value.Value.{Value}
use Rattle.gb_provider.specs.declared.fault.ProviderFault.{ProviderFault}
use Rattle.gb_provider.specs.declared.fault.ProviderFault.TheVariants as faults
use Rattle.gb_provider.specs.declared.fault.StepFault.{StepFault}
use Rattle.gb_provider.specs.declared.fault.StepFault.TheVariants as steps
use Rattle.gb_provider.specs.declared.fault.Refusal.{Refusal}
use Rattle.gb_provider.specs.declared.fault.ValueFault.{ValueFault}
use Rattle.gb_provider.specs.declared.fault.ValueFault.TheVariants as values
use Rattle.gb_provider.specs.declared.expression.Expression.{Expression}
use Rattle.gb_provider.specs.declared.expression.Outcome.{Outcome}
use Rattle.gb_provider.specs.declared.expression.Outcome.TheVariants.{Given, Absent, Refused}
use Rattle.gb_provider.specs.Meanings.{Meanings, meaning_of}
use Rattle.gb_provider.specs.Rounds.{answer}
use Rattle.gb_provider.specs.Circle.{IsCircle}
use Rattle.gb_provider.specs.Rules.{rules}
use Rattle.gb_provider.specs.Table.{Table}
use Rattle.gb_provider.specs.Names.{IsLeastRound, names_on}

-- The contents of providers: the table of stored functions, and the expressions by number.
pub record Held (M F Z S : Type 0) : Type 0 where
  pub table : Table M F Z S
  pub nodes : List (Expression M F Z)

module _ {M F Z S : Type 0} (meanings : Meanings M F Z S) (nodes : List (Expression M F Z)) (entry : ℕ) where
  -- The value of an expression: the answer that the rounds reach.
  abbrev pub value_of : Option Outcome
  value_of = answer (rules meanings nodes) entry

  -- an expression without an answer runs into this circle, which is reported with its names
  abbrev pub RunsInto : List (List ℕ) → Type 0
  RunsInto names =
      (circle : List ℕ) × IsCircle (rules meanings nodes) entry circle
      × IsLeastRound (names_on nodes circle) names

  -- the fault that `get` returns
  abbrev pub IsFault : ProviderFault → Type 0
  IsFault (faults.Circular names) = (value_of ≡ None) × RunsInto names
  IsFault (faults.Step fault) = ⊥
  IsFault faults.NoValue = ⊥
  IsFault (faults.Value fault) = value_of ≡ Some (Refused fault)
  IsFault faults.OutOfMemory = Unit {0}

  -- `get`: the value, or nothing; or its fault
  abbrev pub IsGot : Result (Option Value) ProviderFault → Type 0
  IsGot (Ok (Some value)) = value_of ≡ Some (Given value)
  IsGot (Ok None) = value_of ≡ Some Absent
  IsGot (Err fault) = IsFault fault

  -- `require`: an absent value is 33
  abbrev pub IsRequired : Result Value ProviderFault → Type 0
  IsRequired (Ok value) = value_of ≡ Some (Given value)
  IsRequired (Err (faults.Circular names)) = (value_of ≡ None) × RunsInto names
  IsRequired (Err (faults.Step fault)) = ⊥
  IsRequired (Err faults.NoValue) = value_of ≡ Some Absent
  IsRequired (Err (faults.Value fault)) = value_of ≡ Some (Refused fault)
  IsRequired (Err faults.OutOfMemory) = Unit {0}

module _ (means : Value → List (List ℕ) → Result Bool Refusal) (name : List ℕ)
    (arguments : List (List ℕ)) where
  -- the result of a test on a value; on an absent one it is false
  abbrev pub IsTruth : Outcome → Bool → Type 0
  IsTruth (Given value) truth = means value arguments ≡ Ok truth
  IsTruth Absent truth = truth ≡ false
  IsTruth (Refused fault) truth = ⊥

  -- the fault of the value, or that of the test
  abbrev pub IsTestFault : Outcome → ValueFault → Type 0
  IsTestFault (Given value) fault =
      (refusal : Refusal) × (means value arguments ≡ Err refusal) × (fault ≡ values.Refused name refusal)
  IsTestFault Absent fault = ⊥
  IsTestFault (Refused own) fault = fault ≡ own

  -- the result of the stored test on a value
  abbrev pub IsAsked : Value → Result Bool ProviderFault → Type 0
  IsAsked value (Ok truth) = means value arguments ≡ Ok truth
  IsAsked value (Err (faults.Circular names)) = ⊥
  IsAsked value (Err (faults.Step fault)) = ⊥
  IsAsked value (Err faults.NoValue) = ⊥
  IsAsked value (Err (faults.Value fault)) = IsTestFault (Given value) fault
  IsAsked value (Err faults.OutOfMemory) = Unit {0}

module _ {M F Z S : Type 0} (meanings : Meanings M F Z S) (held : Held M F Z S) (entry : ℕ) (name : List ℕ)
    (arguments : List (List ℕ)) where
  -- the result of a test that was found
  abbrev pub IsTestedBy : S → Result Bool ProviderFault → Type 0
  IsTestedBy test (Ok truth) =
      (meanings.test.arity test ≡ length arguments)
      × ((outcome : Outcome) × (value_of meanings held.nodes entry ≡ Some outcome)
      × IsTruth (meaning_of meanings.test test) name arguments outcome truth)
  IsTestedBy test (Err (faults.Circular names)) =
      (meanings.test.arity test ≡ length arguments)
      × IsFault meanings held.nodes entry (faults.Circular names)
  IsTestedBy test (Err (faults.Step steps.UnknownTransform)) = ⊥
  IsTestedBy test (Err (faults.Step steps.BadArguments)) = meanings.test.arity test ≢ length arguments
  IsTestedBy test (Err (faults.Step steps.OutOfMemory)) = ⊥
  IsTestedBy test (Err faults.NoValue) = ⊥
  IsTestedBy test (Err (faults.Value fault)) =
      (meanings.test.arity test ≡ length arguments)
      × ((outcome : Outcome) × (value_of meanings held.nodes entry ≡ Some outcome)
      × IsTestFault (meaning_of meanings.test test) name arguments outcome fault)
  IsTestedBy test (Err faults.OutOfMemory) = Unit {0}

  -- `test`: 31 if no test has the name, then 32 if its arguments are too many or
  -- too few, then its result
  abbrev pub IsTested : Option S → Result Bool ProviderFault → Type 0
  IsTested (Some test) result = IsTestedBy test result
  IsTested None (Ok truth) = ⊥
  IsTested None (Err (faults.Circular names)) = ⊥
  IsTested None (Err (faults.Step steps.UnknownTransform)) = Unit {0}
  IsTested None (Err (faults.Step steps.BadArguments)) = ⊥
  IsTested None (Err (faults.Step steps.OutOfMemory)) = ⊥
  IsTested None (Err faults.NoValue) = ⊥
  IsTested None (Err (faults.Value fault)) = ⊥
  IsTested None (Err faults.OutOfMemory) = ⊥

-- whether a test takes this many arguments: 31 if there is no test, then 32
abbrev pub IsAccepted : {S X : Type 0} → (S → ℕ) → ℕ → Option S → Result X StepFault → Type 0
IsAccepted arity count (Some test) (Ok x) = arity test ≡ count
IsAccepted arity count (Some test) (Err steps.UnknownTransform) = ⊥
IsAccepted arity count (Some test) (Err steps.BadArguments) = arity test ≢ count
IsAccepted arity count (Some test) (Err steps.OutOfMemory) = ⊥
IsAccepted arity count None (Ok x) = ⊥
IsAccepted arity count None (Err steps.UnknownTransform) = Unit {0}
IsAccepted arity count None (Err steps.BadArguments) = ⊥
IsAccepted arity count None (Err steps.OutOfMemory) = ⊥
