use Rattle.std.proofs.Common.{◌≡◌, ◌∷◌, List, ℕ, refl, sym, ap, subst, ◌∙◌}
use Rattle.std.specs.List.{list_any}
use Rattle.std.specs.List.Sorted.{IsStrictlySortedBy}
use Rattle.std.specs.Ordering.{eq_by_cmp}
use Rattle.gb_core.specs.Lists.{byte_order}
use Rattle.gb_action.specs.Files.{file_at}
use Rattle.gb_kinds.specs.Words.{index_files, with_path}
use Rattle.gb_kinds.proofs.WordFiles.{path_later, rest_of}
use Rattle.gb_kinds.proofs.index.add_path.Goals as goal

pub loop-word-init : goal.loop-word-init
loop-word-init c =
    let keys_are : c.into_iter-word-iterator.result ≡ c.args.words.now.keys = c.into_iter-word-iterator.ensures.into_iter_gives ∙ c.iter-word-items.ensures.rest in
    record {
      ordered = c.requires;
      distinct = subst (IsStrictlySortedBy byte_order) (sym keys_are) c.iter-word-items.ensures.ordered;
      paths = λ word. refl;
    }

pub loop-word-preserved : goal.loop-word-preserved
loop-word-preserved c =
    let next : c.loop-word.word-iterator ≡ c.in-Some.word.now ∷ c.next.new.self = c.in-Some.ensures.steps in
    let distinct = subst (IsStrictlySortedBy byte_order) next c.loop-word.invariant.distinct in
    record {
      ordered = c.in_ok-add_line.ensures.ordered;
      distinct = rest_of c.in-Some.word.now c.next.new.self distinct;
      paths = λ word.
          path_later c.args.path.now c.in-Some.word.now c.next.new.self distinct (index_files c.loop-word.index) (index_files c.add_line.new.index) c.in_ok-add_line.ensures.paths word
          ∙ ap (λ (left : List (List ℕ)). with_path c.args.path.now (list_any (eq_by_cmp byte_order word) left) (file_at (index_files c.loop-word.index) word)) (sym next)
          ∙ c.loop-word.invariant.paths word;
    }

pub returns-clause-ordered : goal.returns-clause-ordered
returns-clause-ordered c = c.loop-word.invariant.ordered

pub returns-clause-paths : goal.returns-clause-paths
returns-clause-paths c = λ word.
    let keys_are : c.into_iter-word-iterator.result ≡ c.args.words.now.keys = c.into_iter-word-iterator.ensures.into_iter_gives ∙ c.iter-word-items.ensures.rest in
    ap (λ (left : List (List ℕ)). with_path c.args.path.now (list_any (eq_by_cmp byte_order word) left) (file_at (index_files c.loop-word.index) word)) (sym c.in-None.ensures.steps.0)
    ∙ c.loop-word.invariant.paths word
    ∙ ap (λ (keys : List (List ℕ)). with_path c.args.path.now (list_any (eq_by_cmp byte_order word) keys) (file_at (index_files c.args.index.now) word)) keys_are
