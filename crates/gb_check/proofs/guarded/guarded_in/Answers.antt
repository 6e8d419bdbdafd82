use Rattle.std.proofs.Common.{List, ap, arith, sym, ◌∙◌}
use Rattle.std.proofs.lemmas.List.Folds.{flat_map-map}
use Rattle.std.proofs.lemmas.List.{take_all}
use Rattle.std.specs.List.{flat_map}
use Rattle.gb_registry.specs.Projects.{Path}
use Rattle.gb_registry.specs.declared.checking.Scripted.{Scripted}
use Rattle.gb_script.specs.declared.script.Statement.{Statement}
use Rattle.gb_check.specs.Warnings.{guarded_by}
use Rattle.gb_check.proofs.guarded.guarded_in.Goals as goal

pub returns-clause-guarded : goal.returns-clause-guarded
returns-clause-guarded c =
    let scripts = c.args.scripts.now in
    let index = c.loop-scripted.scripted-index in
    c.loop-scripted.invariant
    ∙ ap (flat_map (λ (s : Scripted). flat_map (guarded_by s.project) s.script)) (take_all index scripts (omega (arith, c.loop-scripted-test.false)))
    ∙ sym (flat_map-map (λ (script : Path × List Statement). flat_map (guarded_by script.0) script.1) (λ (s : Scripted). (s.project, s.script)) scripts)
