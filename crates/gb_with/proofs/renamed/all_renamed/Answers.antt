use Rattle.std.proofs.Common.{◌≡◌, [], ◌∷◌, ◌+◌, ◌++◌, ap, drop, ◌∙◌}
use Rattle.std.specs.BTreeMap.{get}
use Rattle.gb_core.specs.Lists.{byte_order}
use Rattle.gb_with.specs.Renamed.{all_renamed, following}
use Rattle.gb_with.proofs.Renaming.{one_more}
use Rattle.gb_with.proofs.renamed.all_renamed.Goals as goal

pub loop-path-preserved : goal.loop-path-preserved
loop-path-preserved g c =
    let renamed = g.K.Renaming.renamed in
    let edit = g.K.FileMaker.edited c.args.maker.now in
    let file = c.loop-path-item.result in
    let made = c.loop-path.made.items in
    let taken = get byte_order c.loop-path.taken in
    let after = get byte_order c.put.new.taken in
    let new = c.in_ok-new.new in
    let applied : c.in_ok-edited.edited ≡ edit file.1 = c.in_ok-edited.ensures ∙ ap edit c.as_slice.ensures in
    ap (λ files. following files (all_renamed renamed edit after (drop (c.loop-path.path-index + 1) c.args.files.now)))
    (c.in_ok-put.ensures.made ∙ ap (λ bytes. made ++ (new, bytes) ∷ []) applied)
    ∙ one_more renamed edit made taken c.args.files.now c.loop-path.path-index file c.loop-path-test.true
    c.loop-path-item.is after new c.in_ok-new.ensures c.in_ok-put.ensures.taken
    ∙ c.loop-path.invariant
