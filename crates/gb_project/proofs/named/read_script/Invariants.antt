use Rattle.std.proofs.Common.{◌≡◌, drop}
use Rattle.std.specs.List.{list_all}
use Rattle.gb_project.specs.Named.{registers_named}
use Rattle.gb_project.proofs.named.read_script.Given as goal

abbrev pub invariant-loop-statement : goal.invariant-loop-statement
invariant-loop-statement l =
    list_all registers_named (drop l.statement-index l.statements) ≡ list_all registers_named l.statements
