use Rattle.std.proofs.Common.{◌≡◌, ◌++◌, map, take}
use Rattle.serde_json.specs.View.{view}
use Rattle.gb_ask_command.specs.CheckJson.{finding_object}
use Rattle.gb_ask_command.proofs.check_json.push_objects.Given as goal

abbrev pub invariant-loop-finding : goal.invariant-loop-finding
invariant-loop-finding l = map view l.values.items ≡ map view l.fn.values.items ++ map finding_object (take l.finding-index l.found)
