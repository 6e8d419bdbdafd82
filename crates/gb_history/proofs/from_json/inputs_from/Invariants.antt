use Rattle.std.proofs.Common.{◌≡◌, List, ℕ, map, take}
use Rattle.std.specs.List.{AllByRecursion}
use Rattle.serde_json.specs.View.{view}
use Rattle.gb_core.specs.declared.value.Value.{Value}
use Rattle.gb_history.specs.Record.{IsInput}
use Rattle.gb_history.specs.Text.{input_json}
use Rattle.gb_history.proofs.from_json.inputs_from.Given as goal

abbrev pub invariant-loop-item : goal.invariant-loop-item
invariant-loop-item l = (xs : List (List ℕ × Value)) → AllByRecursion IsInput xs → map view l.items ≡ map input_json xs → l.values ≡ take l.item-index xs
