use Rattle.std.proofs.Common.{◌≡◌, drop}
use Rattle.std.specs.List.{list_all}
use Rattle.gb_registry.specs.SoFar.{said_in}
use Rattle.gb_project.specs.Named.{is_named}
use Rattle.gb_project.proofs.named.read_names.Given as goal

abbrev pub invariant-loop-scripted : goal.invariant-loop-scripted
invariant-loop-scripted l =
    list_all is_named (said_in (drop l.scripted-index l.scripts)) ≡ list_all is_named (said_in l.scripts)
