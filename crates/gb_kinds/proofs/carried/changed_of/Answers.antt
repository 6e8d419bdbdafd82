use Rattle.std.proofs.Common.{◌||◌, ap, subst, sym, ◌∙◌, bytes_eq, IsTrue}
use Rattle.std.specs.BTreeSet.{contains}
use Rattle.gb_core.specs.Place.{is_rel_path}
use Rattle.gb_core.specs.Lists.{byte_order}
use Rattle.gb_action.specs.Files.{file_at, tree_at}
use Rattle.gb_action.specs.Shapes.{source}
use Rattle.gb_action.specs.declared.change.Change.{Change}
use Rattle.gb_kinds.specs.Carried.{holds_in, path_of}
use Rattle.gb_kinds.specs.Words.{index_files, path_line, with_path}
use Rattle.gb_kinds.proofs.Carrying.{any_more, entries_more, paths_more}
use Rattle.gb_kinds.proofs.carried.changed_of.Goals as goal

pub loop-change-preserved : goal.loop-change-preserved
loop-change-preserved c =
    let files = tree_at c.args.request.now.files source in
    let changes = c.args.changes.now in
    let change = c.change-item.result in
    let path_is = c.path_of-path.ensures in
    let read = c.file_of.ensures ∙ ap (λ name. file_at (tree_at c.args.request.now.files name) c.path_of-path.result.now) c.in_ok-name.ensures ∙ ap (file_at files) path_is in
    record {
      ordered = c.in_ok-add_change.ensures.ordered;
      lines = λ line.
          c.in_ok-add_change.ensures.lines line
          ∙ ap (λ p. contains byte_order c.loop-change.changed.lines line || bytes_eq (path_line p) line) path_is
          ∙ ap (λ b. b || bytes_eq (path_line (path_of change)) line) (c.loop-change.invariant.lines line)
          ∙ sym (any_more files changes c.loop-change.change-index change c.loop-change-test.true c.change-item.is (λ (x : Change). bytes_eq (path_line (path_of x)) line));
      words = λ word.
          c.in_ok-add_change.ensures.words word
          ∙ ap (λ o. contains byte_order c.loop-change.changed.words word || holds_in o word) read
          ∙ ap (λ b. b || holds_in (file_at files (path_of change)) word) (c.loop-change.invariant.words word)
          ∙ sym (any_more files changes c.loop-change.change-index change c.loop-change-test.true c.change-item.is (λ (x : Change). holds_in (file_at files (path_of x)) word));
      entries = λ word.
          c.in_ok-add_change.ensures.entries word
          ∙ ap (λ o. with_path c.path_of-path.result.now (holds_in o word) (file_at (index_files c.loop-change.changed.index) word)) read
          ∙ ap (λ p. with_path p (holds_in (file_at files (path_of change)) word) (file_at (index_files c.loop-change.changed.index) word)) path_is
          ∙ ap (with_path (path_of change) (holds_in (file_at files (path_of change)) word)) (c.loop-change.invariant.entries word)
          ∙ sym (entries_more files changes c.loop-change.change-index change c.loop-change-test.true c.change-item.is word);
      paths = paths_more files changes c.loop-change.change-index change c.loop-change-test.true c.change-item.is c.loop-change.invariant.paths (subst (λ path. IsTrue (is_rel_path path)) path_is c.in_ok-add_change.ensures.path);
    }
