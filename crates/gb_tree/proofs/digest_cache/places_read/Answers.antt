use Rattle.std.proofs.Common.{◌++◌, ◌∷◌, [], arith, List, length, take, sym, ap, ◌∙◌}
use Rattle.std.proofs.lemmas.Iterator.Adapters.{YieldsList-from_vec}
use Rattle.std.proofs.lemmas.Iterator.Consumers.{YieldsList-end, YieldsList-turn}
use Rattle.std.proofs.lemmas.List.{length_push, take_all}
use Rattle.gb_tree.specs.DigestCache.{CachedFile, places_read}
use Rattle.gb_tree.proofs.Remembering.{places_more}
use Rattle.gb_tree.proofs.digest_cache.places_read.Goals as goal

pub loop-file-preserved : goal.loop-file-preserved
loop-file-preserved c =
    let files = c.args.files.items in
    let n = length c.loop-file.yielded in
    let x = c.in-Some.file in
    let gives = c.into_iter-file-iterator.ensures.into_iter_gives in
    let turn = YieldsList-turn (YieldsList-from_vec {s = c.into_iter-file-iterator.result} files gives.0 (gives.1 ∙ c.args.files.ok.0)) c.loop-file.yielded c.loop-file.file-iterator c.loop-file.yielded_by c.next.result c.next.new.self x c.in-Some.is c.next.ensures.steps in
    let one : CachedFile = (x.place, x.digest) in
    record {
      can_next = tt;
      is_finite = tt;
      places =
          c.in_ok-push.ensures.items
          ∙ ap (λ (places : List CachedFile). places ++ one ∷ []) c.loop-file.invariant.places
          ∙ places_more files n x turn.0 turn.1
          ∙ ap (λ k. places_read (take k files)) (sym (length_push c.loop-file.yielded x));
    }

pub returns : goal.returns
returns c =
    let files = c.args.files.items in
    let gives = c.into_iter-file-iterator.ensures.into_iter_gives in
    let end = YieldsList-end (YieldsList-from_vec {s = c.into_iter-file-iterator.result} files gives.0 (gives.1 ∙ c.args.files.ok.0)) c.loop-file.yielded c.loop-file.file-iterator c.loop-file.yielded_by c.next.result c.next.new.self c.in-None.is c.next.ensures.steps in
    c.loop-file.invariant.places ∙ ap places_read (take_all (length c.loop-file.yielded) files (omega (arith, end.1)))
