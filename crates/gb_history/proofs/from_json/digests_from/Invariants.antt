use Rattle.std.proofs.Common.{◌≡◌, List, ℕ, map, take}
use Rattle.std.specs.List.{AllByRecursion}
use Rattle.serde_json.specs.View.{view}
use Rattle.gb_history.specs.Record.{IsPrint}
use Rattle.gb_history.specs.Text.{print_json}
use Rattle.gb_history.proofs.from_json.digests_from.Given as goal

abbrev pub invariant-loop-item : goal.invariant-loop-item
invariant-loop-item l = (xs : List (List ℕ × List ℕ)) → AllByRecursion IsPrint xs → map view l.items ≡ map print_json xs → l.prints.items ≡ take l.item-index xs
