use Rattle.std.proofs.Common.{◌≡◌, drop}
use Rattle.gb_registry.specs.Faulty.{missing_in}
use Rattle.gb_registry.specs.SoFar.{scripts_in}
use Rattle.gb_registry.proofs.first_fault.missing_in.Given as goal

abbrev pub invariant-loop-scripted : goal.invariant-loop-scripted
invariant-loop-scripted l =
    missing_in l.names (scripts_in l.scripts) ≡ missing_in l.names (scripts_in (drop l.scripted-index l.scripts))
