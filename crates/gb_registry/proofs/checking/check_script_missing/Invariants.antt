use Rattle.std.proofs.Common.{◌≡◌, drop}
use Rattle.std.specs.List.{flat_map}
use Rattle.gb_registry.specs.Configure.{statement_missing}
use Rattle.gb_registry.proofs.checking.check_script_missing.Given as goal

abbrev pub invariant-loop-statement : goal.invariant-loop-statement
invariant-loop-statement l = record {
  all : l.statements ≡ l.scripted.script;
  left :
      flat_map (statement_missing l.names l.scripted.project) l.statements
      ≡ flat_map (statement_missing l.names l.scripted.project) (drop l.statement-index l.statements);
}
