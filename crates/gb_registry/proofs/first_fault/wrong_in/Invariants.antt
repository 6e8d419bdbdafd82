use Rattle.std.proofs.Common.{◌≡◌, drop}
use Rattle.gb_registry.specs.Faulty.{wrong_in}
use Rattle.gb_registry.specs.SoFar.{scripts_after, scripts_in}
use Rattle.gb_registry.specs.Tables.{tables_of}
use Rattle.gb_registry.proofs.first_fault.wrong_in.Given as goal

abbrev pub invariant-loop-scripted : goal.invariant-loop-scripted
invariant-loop-scripted g l =
    let tables = tables_of g.T.Transforms.meanings g.A.Actions.meanings l.tables in
    let left = scripts_in (drop l.scripted-index l.scripts) in
    record {
      so_far : scripts_after l.fn.so_far (scripts_in l.scripts) ≡ scripts_after l.so_far left;
      found : wrong_in tables l.fn.so_far (scripts_in l.scripts) ≡ wrong_in tables l.so_far left;
    }
