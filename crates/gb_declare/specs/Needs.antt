-- The tasks that a value comes from.
use Rattle.std.specs.Prelude.{◌≡◌, ℕ, List, Some}
use Rattle.gb_core.specs.declared.value.Value.{Value}
use Rattle.gb_provider.specs.Answers.{value_of}
use Rattle.gb_provider.specs.Meanings.{Meanings}
use Rattle.gb_provider.specs.Produced.{produced_by}
use Rattle.gb_provider.specs.declared.expression.Expression.{Expression}
use Rattle.gb_provider.specs.declared.expression.Outcome.TheVariants.{Given}
use Rattle.gb_provider.specs.declared.produced.Produced.TheVariants.{Tasks}
use Rattle.gb_declare.specs.Partly.{IsPartOf}

module _ {M F Z S : Type 0} (meanings : Meanings M F Z S) where
  -- What has a value has its tasks: whatever chooses them was evaluated for the value.
  abbrev pub GivenHasTasks : Type 0
  GivenHasTasks =
      (nodes : List (Expression M F Z)) (entry : ℕ) (value : Value)
      → value_of meanings nodes entry ≡ Some (Given value) →
      (tasks : List (List ℕ)) × (produced_by meanings nodes entry ≡ Some (Tasks tasks))

  -- The tasks that an expression has in a part of a table are those that it has in the whole.
  abbrev pub PartProduces : Type 0
  PartProduces =
      (number : ℕ → ℕ) (part whole : List (Expression M F Z)) → IsPartOf number part whole
      → (entry : ℕ) (tasks : List (List ℕ)) →
      produced_by meanings part entry ≡ Some (Tasks tasks)
      → produced_by meanings whole (number entry) ≡ Some (Tasks tasks)
