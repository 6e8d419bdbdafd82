use Rattle.std.proofs.Common.{◌++◌, List, subst}
use Rattle.gb_tree.specs.DigestCache.{AreAmong, CachedFile, places_read}
use Rattle.gb_tree.proofs.Remembering.{among_first, among_more, none_among}
use Rattle.gb_tree.proofs.digest_cache.DigestCache.add.Goals as goal

pub returns-in-Ok : goal.returns-in-Ok
returns-in-Ok c =
    let old = c.args.self.now in
    let before = c.drop_oldest.new.self in
    subst (λ (more : List CachedFile). AreAmong c.push.new.self (old ++ more)) c.in-Ok.ensures
    (λ file there. among_more before old c.in-Ok.places.items (among_first before c.drop_oldest.ensures.0 old c.drop_oldest.ensures.1) file (c.push.ensures file there))

pub returns-in-Err : goal.returns-in-Err
returns-in-Err c = none_among c.forget.new.self (c.args.self.now ++ places_read c.args.files.items) c.forget.ensures
