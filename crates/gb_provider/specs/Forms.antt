-- Expressions whose operands are named by keys.
use Rattle.std.specs.Prelude.{ℕ, List, Option}
use Rattle.gb_core.specs.declared.value.Value.{Value}
use Rattle.gb_provider.specs.Called.{Called}
use Rattle.gb_provider.specs.declared.fault.Chosen.{Chosen}
use Rattle.gb_provider.specs.declared.expression.Setting.{Setting}
use Rattle.gb_provider.specs.declared.expression.Expression.{Expression}
use Rattle.gb_provider.specs.declared.expression.Expression.TheVariants as nodes

-- An expression over any keys.
pub data Form (M F Z K : Type 0) : Type 0 where
  Constant : (value : Option Value) → Form M F Z K
  OfProperty : (project name : List ℕ) (setting : Option (Setting K)) (convention : Option K) → Form M F Z K
  OfOutput : (chosen : Chosen) (declared : Option K) → Form M F Z K
  Listed : (operands : List K) → Form M F Z K
  Mapped : (source : K) (call : Called M) → Form M F Z K
  FlatMapped : (source : K) (call : Called F) → Form M F Z K
  Zipped : (left right : K) (call : Called Z) → Form M F Z K
  OrElse : (left right : K) → Form M F Z K

-- an expression of a table, whose keys are the numbers of its entries
abbrev pub view : {M F Z : Type 0} → Expression M F Z → Form M F Z ℕ
view (nodes.Constant value) = Constant value
view (nodes.OfProperty property) =
    OfProperty property.project property.name property.setting property.convention
view (nodes.OfOutput output) = OfOutput output.chosen output.declared
view (nodes.Listed operands) = Listed operands
view (nodes.Mapped source call) = Mapped source call
view (nodes.FlatMapped source call) = FlatMapped source call
view (nodes.Zipped left right call) = Zipped left right call
view (nodes.OrElse left right) = OrElse left right
