use Rattle.std.proofs.Common.{ap, ◌∙◌}
use Rattle.std.specs.BTreeSet.{contains}
use Rattle.gb_core.specs.Lists.{byte_order}
use Rattle.gb_kinds.specs.Words.{holds_word, index_files}
use Rattle.gb_kinds.proofs.WordFiles.{entry_of, is_index, one_more}
use Rattle.std.proofs.lemmas.List.{take_all}
use Rattle.gb_kinds.proofs.index.index_of.Goals as goal

pub loop-path-preserved : goal.loop-path-preserved
loop-path-preserved c = record {
  ordered = c.in_ok-add_path.ensures.ordered;
  entries = λ word.
      one_more (index_files c.loop-path.index) (index_files c.add_path.new.index) c.args.files.now c.loop-path.path-index c.loop-path-item.result (contains byte_order c.in_ok-words.words) c.loop-path-test.true c.loop-path-item.is
      (λ q. c.in_ok-words.ensures q ∙ ap (holds_word q) c.as_slice.ensures) c.loop-path.invariant.entries c.in_ok-add_path.ensures.paths word;
}

pub returns : goal.returns
returns c = is_index (index_files c.loop-path.index) c.args.files.now c.loop-path.invariant.ordered (λ q. c.loop-path.invariant.entries q ∙ ap (entry_of q) (take_all c.loop-path.path-index c.args.files.now c.loop-path-test.false))
