-- Tables in which some outputs are not declared yet, compared with the whole table.
use Rattle.std.specs.Prelude.{◌≡◌, ◌⊎◌, ℕ, ◌<◌, List, length, map, Some, None, option_map, slice_get}
use Rattle.gb_provider.specs.Answers.{value_of}
use Rattle.gb_provider.specs.Meanings.{Meanings}
use Rattle.gb_provider.specs.Remembered.{AreWithin}
use Rattle.gb_provider.specs.Rules.{output_place}
use Rattle.gb_provider.specs.declared.expression.Expression.{Expression}
use Rattle.gb_provider.specs.declared.expression.Expression.TheVariants.{Constant, OfProperty, OfOutput}
use Rattle.gb_provider.specs.declared.expression.Expression.TheVariants.{Listed, Mapped, FlatMapped, Zipped}
use Rattle.gb_provider.specs.declared.expression.Expression.TheVariants.{OrElse}
use Rattle.gb_provider.specs.declared.expression.Outcome.{Outcome}
use Rattle.gb_provider.specs.declared.expression.Outcome.TheVariants.{Refused}
use Rattle.gb_provider.specs.declared.expression.Setting.{Setting}
use Rattle.gb_provider.specs.declared.expression.Setting.TheVariants.{Held, Followed}
use Rattle.gb_provider.specs.declared.fault.Chosen.{Chosen}
use Rattle.gb_provider.specs.declared.fault.ValueFault.TheVariants.{Unrealised}

module _ (number : ℕ → ℕ) where
  abbrev pub renamed_setting : Setting ℕ → Setting ℕ
  renamed_setting (Held value) = Held value
  renamed_setting (Followed source) = Followed (number source)

  -- the same expression, with its operands renumbered
  abbrev pub renamed : {M F Z : Type 0} → Expression M F Z → Expression M F Z
  renamed (Constant value) = Constant value
  renamed (OfProperty property) =
      OfProperty (record property {
        setting = option_map renamed_setting property.setting;
        convention = option_map number property.convention;
      })
  renamed (OfOutput output) = OfOutput (record output { declared = option_map number output.declared })
  renamed (Listed operands) = Listed (map number operands)
  renamed (Mapped source call) = Mapped (number source) call
  renamed (FlatMapped source call) = FlatMapped (number source) call
  renamed (Zipped left right call) = Zipped (number left) (number right) call
  renamed (OrElse left right) = OrElse (number left) (number right)

module _ {M F Z : Type 0} (number : ℕ → ℕ) (part whole : List (Expression M F Z)) where
  -- each expression of the part is in the whole, and so is each output, by their numbers there
  pub record IsPartOf : Type 0 where
    pub within : AreWithin part
    pub copied : (entry : ℕ) (e : Expression M F Z) → slice_get part entry ≡ Some e
        → slice_get whole (number entry) ≡ Some (renamed number e)
    pub placed : (chosen : Chosen) (k : ℕ) → output_place part chosen ≡ Some k
        → output_place whole chosen ≡ Some (number k)

module _ {M F Z : Type 0} (part whole : List (Expression M F Z)) where
  -- the result is that an output is not declared, and the whole has this output but the part has not
  abbrev pub IsPending : Outcome → Type 0
  IsPending outcome =
      (chosen : Chosen) × (outcome ≡ Refused (Unrealised chosen)) × (output_place part chosen ≡ None)
      × ((k : ℕ) × (output_place whole chosen ≡ Some k))

module _ {M F Z S : Type 0} (meanings : Meanings M F Z S) where
  -- A result in the part is the result in the whole, unless it is that an output of the whole is not
  -- declared.
  abbrev pub PartAnswers : Type 0
  PartAnswers =
      (number : ℕ → ℕ) (part whole : List (Expression M F Z)) → IsPartOf number part whole
      → (entry : ℕ) (outcome : Outcome) →
      value_of meanings part entry ≡ Some outcome
      → IsPending part whole outcome ⊎ (value_of meanings whole (number entry) ≡ Some outcome)

  -- What never has a result in the part never has one in the whole.
  abbrev pub PartIsEndless : Type 0
  PartIsEndless =
      (number : ℕ → ℕ) (part whole : List (Expression M F Z)) → IsPartOf number part whole → (entry : ℕ)
      → entry < length part →
      value_of meanings part entry ≡ None → value_of meanings whole (number entry) ≡ None
