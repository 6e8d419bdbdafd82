use Rattle.std.proofs.Common.{◌≡◌, ℕ, List, map, take}
use Rattle.std.specs.Prelude.{IsTrue}
use Rattle.std.specs.List.{AllByRecursion}
use Rattle.std.specs.FinMap.Entries.{is_sorted}
use Rattle.serde_json.specs.View.{view}
use Rattle.gb_core.specs.Lists.{byte_order}
use Rattle.gb_history.specs.Record.{Record}
use Rattle.gb_history.specs.Text.{held_json, RecordFits, IsHeldIn}
use Rattle.gb_history.proofs.from_json.records_from.Given as goal

abbrev pub invariant-loop-item : goal.invariant-loop-item
invariant-loop-item l = record {
  read : (xs : List (List ℕ × Record)) → AllByRecursion (IsHeldIn l.edition) xs → IsTrue (is_sorted byte_order xs)
      → map view l.items ≡ map (held_json l.edition) xs → l.history ≡ take l.item-index xs;
  fits : AllByRecursion (RecordFits l.edition) l.history;
}
