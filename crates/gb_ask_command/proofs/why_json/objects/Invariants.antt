use Rattle.std.proofs.Common.{◌≡◌, map, take}
use Rattle.serde_json.specs.View.{view}
use Rattle.gb_ask_command.specs.WhyJson.{why_object}
use Rattle.gb_ask_command.proofs.why_json.objects.Given as goal

abbrev pub invariant-loop-one : goal.invariant-loop-one
invariant-loop-one l = map view l.values.items ≡ map why_object (take l.one-index l.reported)
