use Rattle.std.proofs.Common.{◌≡◌, drop}
use Rattle.gb_registry.specs.Faulty.{missing_in_script}
use Rattle.gb_registry.proofs.first_fault.missing_in_script.Given as goal

abbrev pub invariant-loop-number : goal.invariant-loop-number
invariant-loop-number l = record {
  all : l.statements ≡ l.scripted.script;
  found :
      missing_in_script l.names l.scripted.project 0 l.statements
      ≡ missing_in_script l.names l.scripted.project l.number (drop l.number l.statements);
}
