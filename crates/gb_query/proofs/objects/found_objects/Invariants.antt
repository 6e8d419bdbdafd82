use Rattle.std.proofs.Common.{◌≡◌, map, take}
use Rattle.serde_json.specs.View.{view}
use Rattle.gb_query.specs.Objects.{found_object}
use Rattle.gb_query.proofs.objects.found_objects.Given as goal

abbrev pub invariant-loop-one : goal.invariant-loop-one
invariant-loop-one l = map view l.values.items ≡ map (found_object l.relation) (take l.one-index l.found)
