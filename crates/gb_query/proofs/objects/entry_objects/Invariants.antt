use Rattle.std.proofs.Common.{◌≡◌, map, take}
use Rattle.serde_json.specs.View.{view}
use Rattle.gb_query.specs.Objects.{entry_object}
use Rattle.gb_query.proofs.objects.entry_objects.Given as goal

abbrev pub invariant-loop-entry : goal.invariant-loop-entry
invariant-loop-entry l = map view l.values.items ≡ map entry_object (take l.entry-index l.entries)
