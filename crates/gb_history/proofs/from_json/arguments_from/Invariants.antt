use Rattle.std.proofs.Common.{◌≡◌, List, map, take}
use Rattle.std.specs.List.{AllByRecursion}
use Rattle.serde_json.specs.View.{view}
use Rattle.gb_core.specs.declared.value.Value.{Value}
use Rattle.gb_history.specs.Record.{IsArgument}
use Rattle.gb_history.specs.Text.{value_json}
use Rattle.gb_history.proofs.from_json.arguments_from.Given as goal

abbrev pub invariant-loop-item : goal.invariant-loop-item
invariant-loop-item l = (xs : List (Value)) → AllByRecursion IsArgument xs → map view l.items ≡ map value_json xs → l.arguments ≡ take l.item-index xs
