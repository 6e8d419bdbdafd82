use Rattle.std.proofs.Common.{◌||◌, ap, ◌∙◌, bytes_eq}
use Rattle.std.specs.BTreeSet.{contains}
use Rattle.gb_core.specs.Lists.{byte_order}
use Rattle.gb_kinds.proofs.Carrying.{or_more}
use Rattle.gb_kinds.proofs.carried.add_change.Goals as goal

pub returns-clause-lines : goal.returns-clause-lines
returns-clause-lines c = λ line.
    let before = contains byte_order c.args.changed.now.lines line in
    c.in_ok-insert.ensures.updates.0 line ∙ or_more c.in_ok-of_path.field-0 line before ∙ ap (λ l. before || bytes_eq l line) c.in_ok-of_path.ensures.line

pub returns-clause-words : goal.returns-clause-words
returns-clause-words c = λ word. c.in_ok-add_words.ensures word ∙ ap (λ b. contains byte_order c.args.changed.now.words word || b) (c.in_ok-words.ensures word)
