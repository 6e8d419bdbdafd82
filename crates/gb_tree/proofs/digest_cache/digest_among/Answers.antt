use Rattle.std.proofs.Common.{rules, ℕ, List, ap, get_or, subst}
use Rattle.std.proofs.lemmas.Fn.{always_returns_same}
use Rattle.std.proofs.lemmas.Map.Lookups.{exact_bytes}
use Rattle.std.proofs.lemmas.List.Elements.{Contains-get_or}
use Rattle.std.specs.List.{Contains}
use Rattle.gb_core.specs.Lists.{byte_order}
use Rattle.gb_tree.specs.DigestCache.{CachedFile}
use Rattle.gb_tree.proofs.digest_cache.digest_among.Goals as goal

pub returns-in-Ok : goal.returns-in-Ok
returns-in-Ok c =
    let files = c.args.files.now in
    let place = c.args.place.now in
    let read = c.index-files-at.result in
    let found = c.in-Ok.ensures.position (λ (file : CachedFile). byte_order file.0 place) (always_returns_same _ _ _ (λ a r q h. search rules)) read in
    let one : CachedFile = get_or files c.in-Ok.at read in
    subst (λ (file : CachedFile). Contains files file) (ap (λ (at : List ℕ). let file : CachedFile = (at, one.1) in file) (exact_bytes one.0 place found))
    (Contains-get_or files c.in-Ok.at read c.in-Ok.ensures.bound)
