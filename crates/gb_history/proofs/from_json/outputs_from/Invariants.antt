use Rattle.std.proofs.Common.{◌≡◌, List, map, take}
use Rattle.std.specs.List.{AllByRecursion}
use Rattle.serde_json.specs.View.{view}
use Rattle.gb_history.specs.declared.record.OutputRecord.{OutputRecord}
use Rattle.gb_history.specs.Record.{IsOutput}
use Rattle.gb_history.specs.Text.{output_json}
use Rattle.gb_history.proofs.from_json.outputs_from.Given as goal

abbrev pub invariant-loop-item : goal.invariant-loop-item
invariant-loop-item l = (xs : List (OutputRecord)) → AllByRecursion IsOutput xs → map view l.items ≡ map output_json xs → l.outputs.items ≡ take l.item-index xs
