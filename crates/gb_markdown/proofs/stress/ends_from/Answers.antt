use Rattle.std.specs.Global.{Global}
use Rattle.std.proofs.Common.{Vec, ◌≡◌, suc, ◌+◌, ◌-◌, ◌∷◌, arith, length, take, drop, sym, ap, ◌∙◌, slice_index_or}
use Rattle.std.proofs.Math.Seq.{drop-cons}
use Rattle.std.proofs.lemmas.List.{take_rest}
use Rattle.gb_markdown.specs.References.{meanings}
use Rattle.gb_markdown.specs.Inline.{byte_step, ends_from}
use Rattle.gb_markdown.specs.declared.stress.Ending.{Ending}
use Rattle.gb_markdown.specs.declared.stress.Signs.{Signs}
use Rattle.gb_markdown.proofs.Ends.{passed_over, stepped}
use Rattle.gb_markdown.proofs.stress.ends_from.Goals as goal
use Rattle.gb_markdown.proofs.stress.ends_from.Goals.{then-skip-ne0, else-skip-ne0+in_ok-byte_step+in-Some}

pub loop-index-preserved : goal.loop-index-preserved
loop-index-preserved c =
    let refs = meanings c.args.refs.now in
    let stop = c.args.stop in
    let line = c.args.line.now in
    let at = c.loop-index in
    let b = slice_index_or line at.index 0 in
    let rest = drop (at.index + 1) line in
    let one : suc at.index ≡ at.index + 1 = omega arith in
    let cut : drop at.index line ≡ b ∷ rest =
    drop-cons line at.index 0 c.loop-index-test.true ∙ ap (λ k. b ∷ drop k line) one in
    elim c.if-skip-ne0.branch [
      | then-skip-ne0 w ↦
          ap (λ (v : Vec Signs Global). ends_from refs stop v.items c.if-skip-ne0.ends.items c.if-skip-ne0.skip b rest)
          w.stack-is
          ∙ ap (λ (v : Vec Ending Global). ends_from refs stop at.stack.items v.items c.if-skip-ne0.skip b rest)
          w.ends-is
          ∙ ap (λ k. ends_from refs stop at.stack.items at.ends.items k b rest) w.skip-is
          ∙ passed_over refs stop at.stack.items at.ends.items at.skip at.before b (drop at.index line) rest _ cut
          w.if-skip-ne0.true at.invariant
      | else-skip-ne0+in_ok-byte_step+in-Some w ↦
          let made = w.in_ok-byte_step.ensures in
          let step = byte_step refs stop at.stack.items at.ends.items at.before in
          let text : take (length line - at.index) (drop at.index line) ≡ drop at.index line = take_rest line at.index in
          ap (λ (v : Vec Signs Global). ends_from refs stop v.items c.if-skip-ne0.ends.items c.if-skip-ne0.skip b rest)
          w.stack-is
          ∙ ap (λ (v : Vec Ending Global). ends_from refs stop w.byte_step.new.stack.items v.items c.if-skip-ne0.skip
          b rest) w.ends-is
          ∙ ap (λ k. ends_from refs stop w.byte_step.new.stack.items w.byte_step.new.ends.items k b rest) w.skip-is
          ∙ stepped refs stop at.stack.items at.ends.items at.skip at.before b (drop at.index line) rest _
          w.byte_step.new.stack.items w.byte_step.new.ends.items w.in-Some.more cut w.if-skip-ne0.false
          (made.0 ∙ ap (λ l. (step l).0) text) (made.1 ∙ ap (λ l. (step l).1) text)
          (sym w.in-Some.is ∙ made.2 ∙ ap (λ l. (step l).2) text) at.invariant
    ]
