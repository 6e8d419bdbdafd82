use Rattle.std.proofs.Common.{◌≡◌, ◌≤◌, ◌⊎◌, ◌++◌, ◌+◌, ◌-◌, inl, inr, ℕ, List, map, take, drop, length, ◌∙◌, ap, append_assoc}
use Rattle.gb_action.specs.Changes.{changes_between}
use Rattle.gb_core.specs.Lists.{byte_order}
use Rattle.gb_action.specs.declared.change.Change.TheVariants.{Added, Removed}
use Rattle.gb_tree.specs.Merge.{past, reported}
use Rattle.gb_tree.specs.Prints.{digests_of}
use Rattle.gb_tree.proofs.Digests.{same_changes}
use Rattle.gb_tree.proofs.Merging.{turned, rest_reported}
use Rattle.gb_tree.proofs.changes.compare.Goals as goal
use Rattle.gb_tree.proofs.changes.compare.Goals.{then-loop-at-test+else-to-after, else-loop-at-test}

pub loop-at-preserved : goal.loop-at-preserved
loop-at-preserved c =
    let before = c.as_slice-before.result.now in
    let after = c.as_slice-after.result.now in
    let old = c.loop-at in
    let a = c.index-before-at.result in
    let b = c.index-after-to.result in
    let n = c.past-more_before.result in
    let turn = turned before after old.at old.to a b n c.loop-at-test.true c.if-to-after.true c.index-before-at.is c.index-after-to.is
    (c.past-more_before.ensures ∙ ap past c.in_ok-order.ensures.order) old.invariant.before old.invariant.after in
    record {
      at = turn.at;
      to = turn.to;
      before = turn.before_sorted;
      after = turn.after_sorted;
      reported =
          ap (λ changes. changes ++ changes_between (drop (old.at + n.0) before) (drop (old.to + n.1) after)) c.in_ok-order.ensures.reported
          ∙ append_assoc old.changes (reported (byte_order a.0 b.0) a b) (changes_between (drop (old.at + n.0) before) (drop (old.to + n.1) after))
          ∙ ap (λ changes. old.changes ++ changes) turn.faithful
          ∙ old.invariant.reported;
    }

all_reported : (c : goal.In_ok-report_added) → c.report_added.new.changes ≡ changes_between c.args.old.now.1 c.args.new.now.1
all_reported c =
    let before = c.as_slice-before.result.now in
    let after = c.as_slice-after.result.now in
    let old = c.loop-at in
    let removed = map (λ (e : List ℕ × List ℕ). Removed e.0) (take (length before - old.at) (drop old.at before)) in
    let added = map (λ (e : List ℕ × List ℕ). Added e.0) (take (length after - old.to) (drop old.to after)) in
    let over : (length before ≤ old.at) ⊎ (length after ≤ old.to) = elim c.loop-at-test.branch [
      | then-loop-at-test+else-to-after w ↦ inr w.if-to-after.false
      | else-loop-at-test w ↦ inl w.loop-at-test.false
    ] in
    c.in_ok-report_added.ensures
    ∙ ap (λ changes. changes ++ added) c.in_ok-report_removed.ensures
    ∙ append_assoc old.changes removed added
    ∙ ap (λ changes. old.changes ++ changes) (rest_reported before after old.at old.to over old.invariant.before old.invariant.after)
    ∙ old.invariant.reported
    ∙ ap (λ tree. changes_between tree after) c.as_slice-before.ensures.digests
    ∙ ap (λ tree. changes_between c.args.old.now.1 tree) c.as_slice-after.ensures.digests

pub returns-clause-changes : goal.returns-clause-changes
returns-clause-changes c = all_reported c

pub returns-clause-exact : goal.returns-clause-exact
returns-clause-exact c = λ before after is_before is_after separate.
    all_reported c
    ∙ ap (λ tree. changes_between tree c.args.new.now.1) is_before
    ∙ ap (λ tree. changes_between (digests_of before) tree) is_after
    ∙ same_changes before after separate
