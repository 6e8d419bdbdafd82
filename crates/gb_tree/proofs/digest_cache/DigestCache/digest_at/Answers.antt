use Rattle.std.proofs.Common.{List, IfSome, ap, subst, ◌∙◌}
use Rattle.std.specs.List.{Contains, flat_map}
use Rattle.gb_tree.specs.DigestCache.{CachedFile}
use Rattle.gb_tree.proofs.Remembering.{contained_in}
use Rattle.gb_tree.proofs.digest_cache.DigestCache.digest_at.Goals as goal

pub returns-in-Some : goal.returns-in-Some
returns-in-Some c =
    let place = c.args.place.now in
    let file : CachedFile = (place, c.in-Some.digest) in
    let among = subst (λ r. IfSome r (λ digest. Contains c.as_slice.result.now (place, digest))) c.in-Some.is c.digest_among.ensures in
    subst (λ (seen : List CachedFile). Contains seen file) (ap (flat_map (λ files. files.items)) c.deref-files-items.ensures.value ∙ c.self.view_is)
    (contained_in (λ files. files.items) c.deref-files-items.result.now c.loop-files.files-index c.files-item.result file c.loop-files-test.true c.files-item.is
    (subst (λ (files : List CachedFile). Contains files file) c.as_slice.ensures.value among))
