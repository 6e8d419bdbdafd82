use Rattle.std.proofs.Common.{◌||◌, sym, ap, ◌∙◌, bytes_eq}
use Rattle.std.specs.BTreeSet.{contains}
use Rattle.std.specs.List.{list_any}
use Rattle.bstr.specs.Text.{lines_of}
use Rattle.gb_core.specs.Lists.{byte_order}
use Rattle.gb_kinds.proofs.Carrying.{or_more}
use Rattle.gb_kinds.proofs.FileLaw.{and_true}
use Rattle.gb_kinds.proofs.carried.add_where_reported.Goals as goal

pub returns-in_ok-insert : goal.returns-in_ok-insert
returns-in_ok-insert c = λ other.
    let before = contains byte_order c.args.words.now other in
    c.in_ok-insert.ensures.updates.0 other
    ∙ or_more c.in_ok-copy.field-0 other before
    ∙ ap (λ w. before || bytes_eq w other) c.in_ok-copy.ensures
    ∙ ap (λ b. before || b) (sym (and_true (bytes_eq c.args.word.now other) (list_any (contains byte_order c.args.lines.now) (lines_of c.args.reported.now)) (sym c.in_ok-has_line.ensures ∙ c.if-branch.true)))
