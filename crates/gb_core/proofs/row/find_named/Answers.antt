use Rattle.std.proofs.Common.{sym, ◌∙◌}
use Rattle.gb_core.proofs.Found.{find-here, find-next}
use Rattle.gb_core.proofs.row.find_named.Goals as goal

pub returns-then-eq : goal.returns-then-eq
returns-then-eq g c =
    sym (c.loop-found.invariant ∙ find-here c.args.name.now c.args.entries.now c.loop-found.found-index c.loop-found-item.result c.loop-found-test.true c.loop-found-item.is (sym c.eq.ensures ∙ c.if-eq.true))

pub loop-found-preserved : goal.loop-found-preserved
loop-found-preserved g c =
    c.loop-found.invariant ∙ find-next c.args.name.now c.args.entries.now c.loop-found.found-index c.loop-found-item.result c.loop-found-test.true c.loop-found-item.is (sym c.eq.ensures ∙ c.if-eq.false)
