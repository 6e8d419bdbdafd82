use Rattle.std.proofs.Common.{◌≡◌, List, map, take}
use Rattle.std.specs.List.{AllByRecursion}
use Rattle.serde_json.specs.View.{view}
use Rattle.gb_history.specs.Record.{Prints, ArePrints}
use Rattle.gb_history.specs.Text.{prints_json}
use Rattle.gb_history.proofs.from_json.properties_from.Given as goal

abbrev pub invariant-loop-item : goal.invariant-loop-item
invariant-loop-item l = (xs : List (Prints)) → AllByRecursion ArePrints xs → map view l.items ≡ map prints_json xs → l.properties.items ≡ take l.item-index xs
