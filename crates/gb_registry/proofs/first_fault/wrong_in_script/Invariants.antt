use Rattle.std.proofs.Common.{◌≡◌, drop}
use Rattle.gb_registry.specs.Faulty.{wrong_in_script}
use Rattle.gb_registry.specs.SoFar.{script_after}
use Rattle.gb_registry.specs.Tables.{tables_of}
use Rattle.gb_registry.proofs.first_fault.wrong_in_script.Given as goal

abbrev pub invariant-loop-number : goal.invariant-loop-number
invariant-loop-number g l =
    let tables = tables_of g.T.Transforms.meanings g.A.Actions.meanings l.tables in
    let project = l.scripted.project in
    let left = drop l.number l.statements in
    record {
      all : l.statements ≡ l.scripted.script;
      so_far : script_after project l.fn.so_far l.statements ≡ script_after project l.so_far left;
      found :
          wrong_in_script tables project l.fn.so_far 0 l.statements
          ≡ wrong_in_script tables project l.so_far l.number left;
    }
