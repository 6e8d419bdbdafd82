use Rattle.std.proofs.Common.{ℕ, List, sym, subst, ◌∙◌}
use Rattle.gb_answer.specs.Answer.{answer_text, parts_of, rest_of}
use Rattle.gb_answer.proofs.Parts.{in_parts_of}
use Rattle.gb_printer.specs.Printing.{Prints}
use Rattle.gb_printer.proofs.Printed.{all_printed, prints_more}
use Rattle.gb_cli.proofs.program.run.Goals as goal

pub returns-then-is_whole-clause-reported : goal.returns-then-is_whole-clause-reported
returns-then-is_whole-clause-reported g c =
    let W = g.W.Printer in
    let answer = c.answered-answer.result in
    let old = c.args.writer.now in
    let new = c.print_rest.new.printer in
    let printed = subst (λ (text : List ℕ). Prints W.contents W.whole text old new) (sym (in_parts_of answer))
    (prints_more W.contents W.whole (parts_of answer) (rest_of answer) old c.answered-answer.new.writer new c.answered-answer.ensures.printed c.print_rest.ensures) in (
      answer,
      c.answered-answer.ensures.answers,
      c.answered-answer.ensures.does,
      printed,
      (all_printed W.contents W.whole (answer_text answer) old new printed (sym c.is_whole.ensures ∙ c.if-is_whole.true), c.status_of-status.ensures),
    )

pub returns-else-is_whole-clause-reported : goal.returns-else-is_whole-clause-reported
returns-else-is_whole-clause-reported g c =
    let W = g.W.Printer in
    let answer = c.answered-answer.result in
    let old = c.args.writer.now in
    let new = c.print_rest.new.printer in (
      answer,
      c.answered-answer.ensures.answers,
      c.answered-answer.ensures.does,
      subst (λ (text : List ℕ). Prints W.contents W.whole text old new) (sym (in_parts_of answer))
          (prints_more W.contents W.whole (parts_of answer) (rest_of answer) old c.answered-answer.new.writer new c.answered-answer.ensures.printed c.print_rest.ensures),
      tt,
    )
