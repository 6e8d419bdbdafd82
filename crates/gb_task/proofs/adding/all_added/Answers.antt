use Rattle.std.proofs.Common.{◌≡◌, ◌+◌, ◌++◌, ◌<◌, ℕ, List, arith, get_or, length, take, sym, ap, subst, ◌∙◌}
use Rattle.std.specs.List.{flat_map, zip}
use Rattle.gb_action.specs.Changes.{Changes}
use Rattle.gb_action.specs.Files.{Tree}
use Rattle.gb_history.specs.Record.{Prints}
use Rattle.gb_plan.specs.declared.task.FileProperty.{FileProperty}
use Rattle.gb_label.proofs.Loops.{one_more}
use Rattle.gb_task.specs.Reading.{added_in}
use Rattle.gb_task.proofs.Added.{as_long, many_digests, pair_there, take_past, tree_there}
use Rattle.gb_task.proofs.adding.all_added.Goals as goal

abbrev added : FileProperty × (List ℕ × Tree) → List Changes
added pair = added_in pair.0 pair.1.1

pub loop-at-preserved : goal.loop-at-preserved
loop-at-preserved c = λ trees are.
    let properties = c.as_slice-properties.result.now in
    let all : properties ≡ c.args.task.now.files = c.as_slice-properties.ensures in
    let item = c.index-properties-at.result in
    let found = c.index-prints-at.result in
    let at = c.loop-at.at in
    let below : at < length trees =
    omega (arith, c.loop-at-test.true, ap length all, c.requires, ap length are, many_digests trees) in
    let there = tree_there trees at found below (c.index-prints-at.is ∙ ap (λ (prints : List Prints). get_or prints at found) are) in
    let pair = pair_there properties trees at item there.0 c.loop-at-test.true below c.index-properties-at.is there.1 in
    c.in_ok-add.ensures there.0.1 there.2
    ∙ ap (λ (changes : List Changes). changes ++ added_in item there.0.1) (c.loop-at.invariant trees are)
    ∙ subst (λ (fs : List FileProperty). flat_map added (take at (zip fs trees)) ++ added_in item there.0.1 ≡ flat_map added (take (at + 1) (zip fs trees))) all
    (sym (one_more added (zip properties trees) at (item, there.0) pair.0 pair.1))

pub returns : goal.returns
returns c = λ trees are.
    let properties = c.as_slice-properties.result.now in
    let all : properties ≡ c.args.task.now.files = c.as_slice-properties.ensures in
    let files = c.args.task.now.files in
    let long = as_long files trees (c.requires ∙ ap length are ∙ many_digests trees) in
    c.loop-at.invariant trees are
    ∙ ap (flat_map added) (take_past (zip files trees) c.loop-at.at (omega (arith, c.loop-at-test.false, ap length all, long)))
