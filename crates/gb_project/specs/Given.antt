-- The values of the expressions of the whole table, by their numbers.
use Rattle.std.specs.Prelude.{ℕ, ◌≡◌, ◌⊎◌, Bool, List, Option, Some, Result, Ok, Err}
use Rattle.gb_core.specs.declared.value.Value.{Value}
use Rattle.gb_provider.specs.Answers.{value_of}
use Rattle.gb_provider.specs.Meanings.{Meanings}
use Rattle.gb_provider.specs.Produced.{produced_by}
use Rattle.gb_provider.specs.Table.{test_named}
use Rattle.gb_provider.specs.declared.expression.Expression.{Expression}
use Rattle.gb_provider.specs.declared.expression.Outcome.TheVariants.{Given}
use Rattle.gb_provider.specs.declared.fault.ProviderFault.{ProviderFault}
use Rattle.gb_provider.specs.declared.fault.ProviderFault.TheVariants as faults
use Rattle.gb_report.specs.declared.fault.Fault.{Fault}
use Rattle.gb_report.specs.declared.fault.Fault.TheVariants.{OutOfMemory}
use Rattle.gb_script.specs.declared.function.Function.{Function}
use Rattle.gb_registry.specs.Projects.{Path}
use Rattle.gb_registry.specs.Said.{Registered}
use Rattle.gb_registry.specs.Source.{Source}
use Rattle.gb_registry.specs.Tables.{Tables}
use Rattle.gb_declare.specs.Realised.{Trouble, Plain, and_then, as_flag, as_place, given_by}
use Rattle.gb_declare.specs.Realised.{present, tasks_from, truth_of}
use Rattle.gb_declare.specs.Whole.{spots, whole}

module _ {M F Z S A : Type 0} (tables : Tables M F Z S A) (source : Source) where
  -- its value, or nothing; or what prevents it
  abbrev pub given_at : ℕ → Result (Option Value) Trouble
  given_at entry = given_by tables source entry (value_of tables.means (whole tables source) entry)

  -- its value for something of this name of a task, which must have one
  abbrev pub required_at : Path → List ℕ → ℕ → Result Value Trouble
  required_at path name entry = and_then (given_at entry) (present path name)

  abbrev pub place_at : Path → List ℕ → ℕ → Result (List ℕ) Trouble
  place_at path name entry = and_then (required_at path name entry) (as_place name)

  abbrev pub flag_at : Path → List ℕ → ℕ → Result Bool Trouble
  flag_at path name entry = and_then (required_at path name entry) (as_flag name)

  -- the result of a test on it
  abbrev pub truth_at : Registered → Function → ℕ → Result Bool Trouble
  truth_at at test entry =
      and_then (given_at entry)
      (truth_of tables source at (spots tables source) (whole tables source) test
      (test_named tables.functions test.name))

  -- the tasks that it comes from
  abbrev pub producers_at : ℕ → List Path
  producers_at entry = tasks_from (produced_by tables.means (whole tables source) entry)

-- it has a value
abbrev pub HasValue : {M F Z S : Type 0} → Meanings M F Z S → List (Expression M F Z) → ℕ → Type 0
HasValue means nodes entry = (value : Value) × (value_of means nodes entry ≡ Some (Given value))

-- the possible faults of `get`
abbrev pub IsOfGet : ProviderFault → Type 0
IsOfGet (faults.Circular names) = Unit {0}
IsOfGet (faults.Step fault) = ⊥
IsOfGet faults.NoValue = ⊥
IsOfGet (faults.Value fault) = Unit {0}
IsOfGet faults.OutOfMemory = Unit {0}

-- a value has the expected sort; or it is reported that it has not, or memory ran out
abbrev pub IsSorted : {X : Type 0} → Result X Trouble → Result X Fault → Type 0
IsSorted expected (Ok x) = expected ≡ Ok x
IsSorted expected (Err fault) = (fault ≡ OutOfMemory) ⊎ (expected ≡ Err (Plain fault))
