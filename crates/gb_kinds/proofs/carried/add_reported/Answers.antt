use Rattle.std.proofs.Common.{◌||◌, ◌&&◌, ℕ, List, take, ap, sym, ◌∙◌, bytes_eq}
use Rattle.std.specs.BTreeSet.{contains}
use Rattle.std.specs.List.{list_any}
use Rattle.bstr.specs.Text.{lines_of}
use Rattle.gb_core.specs.Lists.{byte_order}
use Rattle.gb_kinds.proofs.Carrying.{reported_more, turn}
use Rattle.gb_kinds.proofs.carried.add_reported.Goals as goal

pub loop-word-preserved : goal.loop-word-preserved
loop-word-preserved c = λ word.
    let test = λ (file : List ℕ × List ℕ). bytes_eq file.0 word && list_any (contains byte_order c.args.lines.now) (lines_of file.1) in
    let before = contains byte_order c.args.words.now word in
    c.in_ok-add_where_reported.ensures word
    ∙ ap (λ reported. contains byte_order c.loop-word.words word || (bytes_eq c.loop-word-item.result.0 word && list_any (contains byte_order c.args.lines.now) (lines_of reported))) c.as_slice.ensures
    ∙ ap (λ b. b || test c.loop-word-item.result) (c.loop-word.invariant word)
    ∙ turn before (list_any test (take c.loop-word.word-index c.args.index.now)) (test c.loop-word-item.result)
    ∙ ap (λ b. before || b) (sym (reported_more test c.args.index.now c.loop-word.word-index c.loop-word-item.result c.loop-word-test.true c.loop-word-item.is))
