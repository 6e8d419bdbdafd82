use Rattle.std.proofs.Common.{◌≡◌, map, take}
use Rattle.serde_json.specs.View.{view}
use Rattle.gb_ask_command.specs.WhyJson.{reason_data}
use Rattle.gb_ask_command.proofs.why_json.reason_values.Given as goal

abbrev pub invariant-loop-reason : goal.invariant-loop-reason
invariant-loop-reason l = map view l.values.items ≡ map reason_data (take l.reason-index l.reasons)
