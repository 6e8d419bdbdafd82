use Rattle.std.proofs.Common.{◌≡◌, drop}
use Rattle.std.specs.List.{flat_map}
use Rattle.gb_registry.specs.Configure.{script_missing}
use Rattle.gb_registry.specs.SoFar.{scripts_in}
use Rattle.gb_registry.proofs.checking.check_missing.Given as goal

abbrev pub invariant-loop-scripted : goal.invariant-loop-scripted
invariant-loop-scripted l =
    flat_map (script_missing l.names) (scripts_in l.scripts)
    ≡ flat_map (script_missing l.names) (scripts_in (drop l.scripted-index l.scripts))
