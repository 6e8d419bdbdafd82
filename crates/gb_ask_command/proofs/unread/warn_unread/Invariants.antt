use Rattle.std.proofs.Common.{◌≡◌, take}
use Rattle.std.specs.List.{flat_map}
use Rattle.gb_registry.specs.SoFar.{scripts_in}
use Rattle.gb_ask_command.specs.Unread.{unread_value}
use Rattle.gb_ask_command.proofs.unread.warn_unread.Given as goal

abbrev pub invariant-loop-value : goal.invariant-loop-value
invariant-loop-value l = l.found.items ≡ flat_map (unread_value (scripts_in l.scripts)) (take l.value-index l.given)
