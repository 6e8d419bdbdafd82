-- The result of a test, from its parts.
use Rattle.std.proofs.Common.{◌≡◌, ℕ, List, length, refl}
use Rattle.std.specs.Prelude.{Bool, false, Some, Result, Ok, Err}
use Rattle.gb_core.specs.declared.value.Value.{Value}
use Rattle.gb_provider.specs.declared.fault.ProviderFault.{ProviderFault}
use Rattle.gb_provider.specs.declared.fault.ProviderFault.TheVariants as faults
use Rattle.gb_provider.specs.declared.expression.Outcome.TheVariants.{Given, Absent, Refused}
use Rattle.gb_provider.specs.Answers.{Held, value_of, IsFault, IsAsked, IsTestedBy}
use Rattle.gb_provider.specs.Meanings.{Meanings, meaning_of}

module _ {M F Z S : Type 0} (meanings : Meanings M F Z S) (held : Held M F Z S) (entry : ℕ) (name : List ℕ) (arguments : List (List ℕ)) (test : S) (count : meanings.test.arity test ≡ length arguments) where
  -- the test's own result on a value
  pub asked_tested : (value : Value) → value_of meanings held.nodes entry ≡ Some (Given value) → (result : Result Bool ProviderFault) → IsAsked (meaning_of meanings.test test) name arguments value result → IsTestedBy meanings held entry name arguments test result
  asked_tested value is (Ok truth) asked = (count, (Given value, is, asked))
  asked_tested value is (Err (faults.Circular names)) asked = absurd asked
  asked_tested value is (Err (faults.Step fault)) asked = absurd asked
  asked_tested value is (Err faults.NoValue) asked = absurd asked
  asked_tested value is (Err (faults.Value fault)) asked = (count, (Given value, is, asked))
  asked_tested value is (Err faults.OutOfMemory) asked = tt

  -- the fault of the value
  pub fault_tested : (fault : ProviderFault) → IsFault meanings held.nodes entry fault → IsTestedBy meanings held entry name arguments test (Err fault)
  fault_tested (faults.Circular names) is = (count, is)
  fault_tested (faults.Step fault) is = absurd is
  fault_tested faults.NoValue is = absurd is
  fault_tested (faults.Value fault) is = (count, (Refused fault, is, refl))
  fault_tested faults.OutOfMemory is = tt

  -- an absent value
  pub absent_tested : value_of meanings held.nodes entry ≡ Some Absent → IsTestedBy meanings held entry name arguments test (Ok false)
  absent_tested is = (count, (Absent, is, refl))
