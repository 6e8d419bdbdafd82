use Rattle.std.proofs.Common.{◌+◌, drop, sym, ap, ◌∙◌}
use Rattle.std.specs.List.{list_all}
use Rattle.gb_registry.proofs.Firsts.{left_from}
use Rattle.gb_registry.specs.SoFar.{said_in}
use Rattle.gb_project.specs.Named.{is_named}
use Rattle.gb_project.proofs.SaidLemmas.{named_after}
use Rattle.gb_project.proofs.named.read_names.Goals as goal

pub loop-scripted-preserved : goal.loop-scripted-preserved
loop-scripted-preserved c =
    let i = c.loop-scripted.scripted-index in
    let scripted = c.scripted-item.result in
    sym (ap (λ left. list_all is_named (said_in left)) (left_from c.args.scripts.now i scripted c.loop-scripted-test.true c.scripted-item.is)
    ∙ named_after scripted.project scripted.script (said_in (drop (i + 1) c.args.scripts.now)) c.read_script.ensures.project c.read_script.ensures.names)
    ∙ c.loop-scripted.invariant
