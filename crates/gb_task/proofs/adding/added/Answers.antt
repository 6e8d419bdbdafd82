use Rattle.std.proofs.Common.{◌≡◌, ◌∙◌, [], List, Result, Ok, Err, IfOk, ap}
use Rattle.gb_action.specs.Changes.{changes_between}
use Rattle.gb_action.specs.Files.{Tree}
use Rattle.gb_action.specs.declared.change.Change.{Change}
use Rattle.gb_semantics.proofs.Common.{none_some}
use Rattle.gb_tree.specs.Prints.{AreCollisionFree, digests_of}
use Rattle.gb_task.proofs.adding.added.Goals as goal

weaker : {T E : Type 0} (P Q : T → Type 0) (r : Result T E) → ((x : T) → P x → Q x) → IfOk r P → IfOk r Q
weaker P Q (Ok x) f h = f x h
weaker P Q (Err e) f h = tt

-- no content shares a digest with none
separate_from_none : (tree : Tree) → AreCollisionFree [] tree
separate_from_none tree path a b e f same = none_some e

pub returns : goal.returns
returns c =
    let Reported : List Change → Type 0 = λ changes. (before after : Tree) → c.new-none.result.1 ≡ digests_of before → c.args.found.now.1 ≡ digests_of after → AreCollisionFree before after
    → changes ≡ changes_between before after in
    let Wanted : List Change → Type 0 = λ changes. (tree : Tree) → c.args.found.now.1 ≡ digests_of tree → changes ≡ changes_between [] tree in
    weaker Reported Wanted c.compare.result (λ changes exact tree is. exact [] tree (ap (λ p. p.1) c.new-none.ensures ∙ c.new.ensures.items) is (separate_from_none tree)) c.compare.ensures.exact
