-- The numbers of outputs.
use Rattle.std.specs.Prelude.{◌≡◌, ℕ, List}
use Rattle.std.specs.BTreeMap.{BTreeMap, get}
use Rattle.std.specs.declared.cmp.Ordering.{Ordering}
use Rattle.gb_provider.specs.declared.fault.Chosen.{Chosen}
use Rattle.gb_provider.specs.declared.expression.Expression.{Expression}
use Rattle.gb_provider.specs.declared.expression.Expression.TheVariants.{Constant, OfProperty, OfOutput}
use Rattle.gb_provider.specs.declared.expression.Expression.TheVariants.{Listed, Mapped, FlatMapped, Zipped}
use Rattle.gb_provider.specs.declared.expression.Expression.TheVariants.{OrElse}
use Rattle.std.specs.Ordering.{ordering_then}
use Rattle.gb_provider.specs.Rules.{output_place}
use Rattle.gb_core.specs.Lists.{byte_order}

-- outputs ordered by their tasks, and by their names if the tasks are the same
abbrev pub chosen_order : Chosen → Chosen → Ordering
chosen_order a b = ordering_then (byte_order a.task b.task) (byte_order a.output b.output)

module _ {M F Z : Type 0} where
  -- the expression is no output of a task
  abbrev pub IsNoOutput : Expression M F Z → Type 0
  IsNoOutput (Constant value) = Unit {0}
  IsNoOutput (OfProperty property) = Unit {0}
  IsNoOutput (OfOutput output) = ⊥
  IsNoOutput (Listed operands) = Unit {0}
  IsNoOutput (Mapped source call) = Unit {0}
  IsNoOutput (FlatMapped source call) = Unit {0}
  IsNoOutput (Zipped left right call) = Unit {0}
  IsNoOutput (OrElse left right) = Unit {0}

  -- the map has the number of each output
  abbrev pub IsIndexed : List (Expression M F Z) → BTreeMap Chosen ℕ → Type 0
  IsIndexed nodes outputs = (chosen : Chosen) → get chosen_order outputs chosen ≡ output_place nodes chosen
