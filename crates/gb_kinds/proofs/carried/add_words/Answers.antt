use Rattle.std.proofs.Common.{◌||◌, ap, sym, ◌∙◌}
use Rattle.std.specs.BTreeSet.{contains}
use Rattle.std.specs.List.{list_any}
use Rattle.std.specs.Ordering.{eq_by_cmp}
use Rattle.gb_core.specs.Lists.{byte_order}
use Rattle.gb_kinds.proofs.Carrying.{word_taken}
use Rattle.gb_kinds.proofs.carried.add_words.Goals as goal

pub loop-word-preserved : goal.loop-word-preserved
loop-word-preserved c = λ word.
    let before = contains byte_order c.loop-word.words word in
    ap (λ b. b || list_any (eq_by_cmp byte_order word) c.next.new.self) (c.in_ok-insert.ensures.updates.0 word)
    ∙ word_taken word c.in-Some.word c.next.new.self before
    ∙ ap (λ rest. before || list_any (eq_by_cmp byte_order word) rest) (sym c.in-Some.ensures.steps)
    ∙ c.loop-word.invariant word
