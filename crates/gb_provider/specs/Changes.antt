-- Changes of properties and outputs.
use Rattle.std.specs.Prelude.{◌≡◌, ◌<◌, ℕ, List, Bool, true, false, not, Option, Some, None, Result, Ok}
use Rattle.std.specs.Prelude.{Err, slice_get, slice_set}
use Rattle.gb_provider.specs.declared.fault.Final.{Final}
use Rattle.gb_provider.specs.declared.expression.Setting.TheVariants.{Held, Followed}
use Rattle.gb_provider.specs.declared.expression.Output.{Output}
use Rattle.gb_provider.specs.declared.expression.Property.{Property}
use Rattle.gb_provider.specs.declared.expression.Expression.{Expression}
use Rattle.gb_provider.specs.declared.expression.Expression.TheVariants.{Constant, OfProperty, OfOutput}
use Rattle.gb_provider.specs.declared.expression.Expression.TheVariants.{Listed, Mapped, FlatMapped, Zipped}
use Rattle.gb_provider.specs.declared.expression.Expression.TheVariants.{OrElse}
use Rattle.gb_provider.specs.declared.expression.Node.{Node}
use Rattle.gb_provider.specs.declared.fault.Chosen.{Chosen}
use Rattle.gb_provider.specs.declared.property_change.Change.{Change}
use Rattle.gb_provider.specs.declared.property_change.Change.TheVariants as changes
use Rattle.gb_provider.specs.Answers as answers
use Rattle.gb_provider.specs.Steps.{IsAdded}

-- a final property accepts no change except to be made final
abbrev pub takes : Change → Bool → Bool
takes (changes.Set value) is_final = not is_final
takes (changes.SetFrom source) is_final = not is_final
takes changes.Unset is_final = not is_final
takes (changes.Convention source) is_final = not is_final
takes changes.Finalize is_final = true

abbrev pub if_taken : Property → Bool → Option Property
if_taken property true = Some property
if_taken property false = None

module _ {M F Z : Type 0} (change : Change) where
  -- the property with a number, if there is one that accepts the change
  abbrev pub open_property : Option (Expression M F Z) → Option Property
  open_property (Some (Constant value)) = None
  open_property (Some (OfProperty property)) = if_taken property (takes change property.is_final)
  open_property (Some (OfOutput output)) = None
  open_property (Some (Listed operands)) = None
  open_property (Some (Mapped source call)) = None
  open_property (Some (FlatMapped source call)) = None
  open_property (Some (Zipped left right call)) = None
  open_property (Some (OrElse left right)) = None
  open_property None = None

-- The property after a change.
abbrev pub changed : Change → Property → Property
changed (changes.Set value) property = record property { setting = Some (Held value) }
changed (changes.SetFrom source) property = record property { setting = Some (Followed source) }
changed changes.Unset property = record property { setting = None }
changed (changes.Convention source) property = record property { convention = Some source }
changed changes.Finalize property = record property { is_final = true }

-- the operand of a change is one of the first n expressions
abbrev pub ChangeWithin : ℕ → Change → Type 0
ChangeWithin n (changes.Set value) = Unit {0}
ChangeWithin n (changes.SetFrom source) = source < n
ChangeWithin n changes.Unset = Unit {0}
ChangeWithin n (changes.Convention source) = source < n
ChangeWithin n changes.Finalize = Unit {0}

-- A property that accepts the change is changed, and nothing else; else the change is refused.
abbrev pub AreChanged : {M F Z : Type 0} → Change → List (Expression M F Z) → ℕ → List (Expression M F Z)
    → Result (Unit {0}) Final → Type 0
AreChanged change old at new (Ok done) =
    (property : Property) × (open_property change (slice_get old at) ≡ Some property)
    × (new ≡ slice_set old at (OfProperty (changed change property)))
AreChanged change old at new (Err final) = (open_property change (slice_get old at) ≡ None) × (new ≡ old)

-- the same of one expression
abbrev pub IsNodeChanged : {M F Z : Type 0} → Change → Expression M F Z → Expression M F Z
    → Result (Unit {0}) Final → Type 0
IsNodeChanged change old new (Ok done) =
    (property : Property) × (open_property change (Some old) ≡ Some property)
    × (new ≡ OfProperty (changed change property))
IsNodeChanged change old new (Err final) = (open_property change (Some old) ≡ None) × (new ≡ old)

-- an output is declared as this expression
abbrev pub IsNodeDeclared : {M F Z : Type 0} → ℕ → Expression M F Z → Expression M F Z → Type 0
IsNodeDeclared source old new =
    (output : Output) → old ≡ OfOutput output → new ≡ OfOutput (record output { declared = Some source })

-- the same of the contents of providers: the table stays
abbrev pub IsChanged : {M F Z S : Type 0} → Change → answers.Held M F Z S → ℕ → answers.Held M F Z S
    → Result (Unit {0}) Final → Type 0
IsChanged change old at new result = AreChanged change old.nodes at new.nodes result × (new.table ≡ old.table)

module _ {M F Z S : Type 0} (old : answers.Held M F Z S) (chosen : Chosen) where
  -- the node of an output: its number in the table, or that of one more
  abbrev pub IsOutput : Option ℕ → answers.Held M F Z S → Node → Type 0
  IsOutput (Some place) new node = (node.number ≡ place) × (new ≡ old)
  IsOutput None new node = IsAdded old (OfOutput (record { chosen = chosen; declared = None })) new node

  -- the node of an output, which is declared as this expression
  abbrev pub IsDeclared : ℕ → Option ℕ → answers.Held M F Z S → Node → Type 0
  IsDeclared source (Some place) new node =
      (node.number ≡ place)
      × (new ≡ record old {
        nodes =
            slice_set old.nodes place (OfOutput (record { chosen = chosen; declared = Some source }));
      })
  IsDeclared source None new node =
      IsAdded old (OfOutput (record { chosen = chosen; declared = Some source })) new node
