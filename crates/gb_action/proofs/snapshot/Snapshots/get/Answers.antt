use Rattle.std.proofs.Common.{◌≡◌, false, true, Some, sym, ap, ◌∙◌, bytes_eq}
use Rattle.std.specs.FinMap.Entries.{find}
use Rattle.gb_core.specs.Lists.{byte_order}
use Rattle.gb_core.proofs.Found.{find-here, find-next}
use Rattle.gb_action.proofs.snapshot.Snapshots.get.Goals as goal

pub returns-then-eq : goal.returns-then-eq
returns-then-eq c =
    let es = c.deref-snapshot-items.result.now in
    let same : bytes_eq c.snapshot-item.result.0 c.args.name.now ≡ true = ap (λ n. bytes_eq n c.args.name.now) (sym c.name.ensures) ∙ sym c.eq.ensures ∙ c.if-eq.true in
    ap Some c.files.ensures
    ∙ sym (find-here c.args.name.now es c.loop-snapshot.snapshot-index c.snapshot-item.result c.loop-snapshot-test.true c.snapshot-item.is same)
    ∙ sym c.loop-snapshot.invariant
    ∙ ap (find byte_order c.args.name.now) (c.deref-snapshot-items.ensures.value ∙ c.self.view_is)

pub loop-snapshot-preserved : goal.loop-snapshot-preserved
loop-snapshot-preserved c =
    let es = c.deref-snapshot-items.result.now in
    let other : bytes_eq c.snapshot-item.result.0 c.args.name.now ≡ false = ap (λ n. bytes_eq n c.args.name.now) (sym c.name.ensures) ∙ sym c.eq.ensures ∙ c.if-eq.false in
    c.loop-snapshot.invariant ∙ find-next c.args.name.now es c.loop-snapshot.snapshot-index c.snapshot-item.result c.loop-snapshot-test.true c.snapshot-item.is other
