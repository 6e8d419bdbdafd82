use Rattle.std.proofs.Common.{◌≡◌, List, ℕ, map, take}
use Rattle.serde_json.specs.Data.{string}
use Rattle.serde_json.specs.View.{view}
use Rattle.gb_history.proofs.from_json.texts_from.Given as goal

abbrev pub invariant-loop-item : goal.invariant-loop-item
invariant-loop-item l = (ts : List (List ℕ)) → map view l.items ≡ map string ts → l.texts ≡ take l.item-index ts
