use Rattle.std.proofs.Common.{◌||◌, ◌∷◌, ap, sym, ◌∙◌, bytes_eq}
use Rattle.std.specs.BTreeSet.{contains}
use Rattle.std.specs.List.{list_any}
use Rattle.gb_core.specs.Lists.{byte_order}
use Rattle.gb_kinds.proofs.Carrying.{line_taken, or_more}
use Rattle.gb_kinds.proofs.carried.carried_lines.Goals as goal

pub loop-line-preserved : goal.loop-line-preserved
loop-line-preserved c = λ line.
    let before = contains byte_order c.loop-line.lines line in
    ap (λ b. b || list_any (bytes_eq line) c.next.new.self) (c.in_ok-insert.ensures.updates.0 line ∙ or_more c.in_ok-from_slice.field-0 line before)
    ∙ line_taken line c.in_ok-from_slice.field-0 c.next.new.self before
    ∙ ap (λ rest. before || list_any (bytes_eq line) rest) (ap (λ l. l ∷ c.next.new.self) c.in_ok-from_slice.ensures ∙ sym c.in-Some.ensures.steps)
    ∙ c.loop-line.invariant line
