use Rattle.std.proofs.Common.{◌||◌, ◌&&◌, ◌∷◌, not, ap, sym, ◌∙◌, bytes_eq}
use Rattle.std.specs.BTreeSet.{contains}
use Rattle.std.specs.List.{list_any}
use Rattle.gb_core.specs.Lists.{byte_order}
use Rattle.gb_kinds.proofs.Carrying.{kept_taken, or_more}
use Rattle.gb_kinds.proofs.carried.add_others.Goals as goal

pub loop-line-preserved-in_ok-insert : goal.loop-line-preserved-in_ok-insert
loop-line-preserved-in_ok-insert c = λ line.
    let gone = contains byte_order c.args.gone.now in
    let before = contains byte_order c.loop-line.lines line in
    ap (λ b. b || (list_any (bytes_eq line) c.next.new.self && not (gone line))) (c.in_ok-insert.ensures.updates.0 line ∙ or_more c.in_ok-line.line line before)
    ∙ kept_taken gone line c.in_ok-line.line c.next.new.self before (sym c.contains.ensures ∙ c.if-not-contains.true)
    ∙ ap (λ rest. before || (list_any (bytes_eq line) rest && not (gone line))) (ap (λ l. l ∷ c.next.new.self) c.in_ok-line.ensures ∙ sym c.in-Some.ensures.steps)
    ∙ c.loop-line.invariant line
