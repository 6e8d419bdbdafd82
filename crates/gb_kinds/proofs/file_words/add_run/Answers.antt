use Rattle.std.proofs.Common.{◌≡◌, true, sym, ◌∙◌}
use Rattle.std.specs.BTreeSet.{contains}
use Rattle.gb_core.specs.Lists.{byte_order}
use Rattle.gb_kinds.specs.Words.{is_word}
use Rattle.gb_kinds.proofs.WordSets.{with_word}
use Rattle.gb_kinds.proofs.WordPaths.{is_path}
use Rattle.gb_kinds.proofs.file_words.add_run.Goals as goal

pub returns-in_ok-insert : goal.returns-in_ok-insert
returns-in_ok-insert c = λ word.
    let is : c.in_ok-rel_path.field-0 ≡ c.args.run.now = c.in_ok-rel_path.ensures in
    let counts : is_word c.args.run.now ≡ true = sym c.is_word.ensures ∙ c.if-is_word.true in
    c.in_ok-insert.ensures.updates.0 word
    ∙ with_word word c.in_ok-rel_path.field-0 c.args.run.now (contains byte_order c.args.words.now word) is counts

pub rel_path-requires : goal.rel_path-requires
rel_path-requires c = is_path c.args.run.now c.requires (sym c.is_word.ensures ∙ c.if-is_word.true)
