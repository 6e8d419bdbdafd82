use Rattle.std.proofs.Common.{◌≡◌, map, take}
use Rattle.gb_ask_command.specs.Check.{unregistered_of}
use Rattle.gb_ask_command.proofs.check.unregistered_found.Given as goal

abbrev pub invariant-loop-path : goal.invariant-loop-path
invariant-loop-path l = l.found.items ≡ map unregistered_of (take l.path-index l.paths)
