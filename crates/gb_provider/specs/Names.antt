-- The names on a circle.
use Rattle.std.specs.Prelude.{◌≡◌, ◌≢◌, ℕ, ◌<◌, List, [], ◌∷◌, ◌++◌, Option, Some, None, length}
use Rattle.std.specs.Prelude.{drop, take, slice_get}
use Rattle.std.specs.List.{flat_map}
use Rattle.std.specs.Cmp.Lexicographic.{slice_cmp}
use Rattle.std.specs.declared.cmp.Ordering.{Ordering}
use Rattle.std.specs.declared.cmp.Ordering.TheVariants.{Greater}
use Rattle.gb_provider.specs.declared.fault.ProviderFault.{ProviderFault}
use Rattle.gb_provider.specs.declared.fault.ProviderFault.TheVariants as faults
use Rattle.gb_provider.specs.declared.expression.Expression.{Expression}
use Rattle.gb_provider.specs.declared.expression.Expression.TheVariants.{Constant, OfProperty, OfOutput}
use Rattle.gb_provider.specs.declared.expression.Expression.TheVariants.{Listed, Mapped, FlatMapped, Zipped}
use Rattle.gb_provider.specs.declared.expression.Expression.TheVariants.{OrElse}
use Rattle.gb_core.specs.Lists.{byte_order}

-- a property's project or an output's task, `#`, and its name
abbrev pub label : List ℕ → List ℕ → List ℕ
label owner name = owner ++ 35 ∷ name

module _ {M F Z : Type 0} where
  -- properties and outputs have names
  abbrev pub names_of : Option (Expression M F Z) → List (List ℕ)
  names_of (Some (Constant value)) = []
  names_of (Some (OfProperty property)) = label property.project property.name ∷ []
  names_of (Some (OfOutput output)) = label output.chosen.task output.chosen.output ∷ []
  names_of (Some (Listed operands)) = []
  names_of (Some (Mapped source call)) = []
  names_of (Some (FlatMapped source call)) = []
  names_of (Some (Zipped left right call)) = []
  names_of (Some (OrElse left right)) = []
  names_of None = []

  -- the names along these expressions
  abbrev pub names_on : List (Expression M F Z) → List ℕ → List (List ℕ)
  names_on nodes circle = flat_map (λ number. names_of (slice_get nodes number)) circle

-- names ordered one by one, each by its bytes
abbrev pub names_order : List (List ℕ) → List (List ℕ) → Ordering
names_order = slice_cmp byte_order

-- the same circle of names, rotated to begin at a position
abbrev pub round_from : List (List ℕ) → ℕ → List (List ℕ)
round_from names place = drop place names ++ take place names

-- the least of the rotations, in the order of names
abbrev pub IsLeastRound : List (List ℕ) → List (List ℕ) → Type 0
IsLeastRound names round =
    ((place : ℕ) × (round ≡ round_from names place))
    × ((k : ℕ) → k < length names → names_order round (round_from names k) ≢ Greater)

-- a circle is reported with its names, unless memory runs out
abbrev pub IsCircleReported : {M F Z : Type 0} → List (Expression M F Z) → List ℕ → ProviderFault → Type 0
IsCircleReported nodes circle (faults.Circular names) = IsLeastRound (names_on nodes circle) names
IsCircleReported nodes circle (faults.Step fault) = ⊥
IsCircleReported nodes circle faults.NoValue = ⊥
IsCircleReported nodes circle (faults.Value fault) = ⊥
IsCircleReported nodes circle faults.OutOfMemory = Unit {0}
