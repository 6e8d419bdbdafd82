use Rattle.std.proofs.Common.{arith, ◌≡◌, ◌∙◌, ap, IsTrue}
use Rattle.std.proofs.lemmas.List.{take_all}
use Rattle.std.proofs.lemmas.Result.{err_from_is_err_and}
use Rattle.gb_tree.specs.Tree.{is_among}
use Rattle.gb_tree.proofs.Blame.{at_entry, blamed_before}
use Rattle.gb_tree.specs.Property.{paths_of}
use Rattle.gb_tree.proofs.InOrder.{sorted_alike}
use Rattle.gb_tree.proofs.reading.digest_all.Goals as goal

pub returns-clause-ordered : goal.returns-clause-ordered
returns-clause-ordered g c =
    let entries = c.args.entries.now in
    let end = c.loop-path-test.false in
    sorted_alike c.loop-path.digests.items entries (c.loop-path.invariant.paths ∙ ap paths_of (take_all c.loop-path.path-index entries (omega (arith, end)))) ∙ c.requires

pub returns-in_err-digest-clause-blame : goal.returns-in_err-digest-clause-blame
returns-in_err-digest-clause-blame g c =
    let p = err_from_is_err_and c.from_residual-in_err-digest.result c.from_residual-in_err-digest.ensures.1 in
    let entries = c.args.entries.now in
    let entry = c.loop-path-item.result in
    blamed_before (λ at. at ≡ entry.1) (λ at. IsTrue (is_among entries at)) _ _ _ _ c.in_err-digest.field-0.0 p.0 c.loop-path.invariant.requests.count c.in_err-digest.ensures.reads.requests.count p.1 p.2
    (at_entry entries c.loop-path.path-index entry c.loop-path-test.true c.loop-path-item.is) c.in_err-digest.ensures.blame
