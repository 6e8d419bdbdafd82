use Rattle.std.proofs.Common.{◌≡◌, ◌++◌, ◌∷◌, false, List, Result, Ok, Err, if◌then◌else◌, is_err, is_ok, sym, ap, subst, ◌∙◌}
use Rattle.std.specs.List.{flat_map}
use Rattle.gb_tree.specs.DigestCache.{AreAmong, CachedFile}
use Rattle.gb_tree.proofs.Remembering.{among_turned, none_among}
use Rattle.gb_tree.proofs.digest_cache.DigestCache.push.Goals as goal

pub returns-then-is_err : goal.returns-then-is_err
returns-then-is_err c = none_among c.forget.new.self (c.args.self.now ++ c.args.places.items) c.forget.ensures

-- what is there after a call that did not fail
on_ok : {T E X : Type 0} (r : Result T E) (now added old : X) → now ≡ (if is_ok r then added else old) → is_err r ≡ false → now ≡ added
on_ok (Ok done) now added old is not_err = is
on_ok (Err fault) now added old is not_err = absurd (let q = not_err in (cc))

pub returns-else-is_err : goal.returns-else-is_err
returns-else-is_err c =
    let before = c.self.inside.readings.items in
    let added = c.args.places ∷ before in
    let is = on_ok c.insert.result c.insert.new.self.items added before c.insert.ensures.items (sym c.is_err.ensures.value ∙ c.if-is_err.false) in
    subst (λ (files : List CachedFile). AreAmong files (c.args.self.now ++ c.args.places.items)) (sym (ap (flat_map (λ files. files.items)) is))
    (subst (λ (old : List CachedFile). AreAmong (c.args.places.items ++ old) (c.args.self.now ++ c.args.places.items)) (sym c.self.view_is) (among_turned c.args.self.now c.args.places.items))
