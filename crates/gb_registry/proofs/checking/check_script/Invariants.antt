use Rattle.std.proofs.Common.{◌≡◌, drop}
use Rattle.gb_registry.specs.SoFar.{script_after, script_faults}
use Rattle.gb_registry.specs.Tables.{tables_of}
use Rattle.gb_registry.proofs.checking.check_script.Given as goal

abbrev pub invariant-loop-statement : goal.invariant-loop-statement
invariant-loop-statement g l =
    let tables = tables_of g.T.Transforms.meanings g.A.Actions.meanings l.tables in
    let project = l.scripted.project in
    let left = drop l.statement-index l.statements in
    record {
      all : l.statements ≡ l.scripted.script;
      so_far : script_after project l.fn.so_far l.statements ≡ script_after project l.so_far left;
      faults : script_faults tables project l.fn.so_far l.statements ≡ script_faults tables project l.so_far left;
    }
