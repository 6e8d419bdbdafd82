use Rattle.std.proofs.Common.{◌++◌, arith, ℕ, List, length, take, sym, subst, ◌∙◌}
use Rattle.std.proofs.lemmas.Iterator.Adapters.{YieldsList-from_vec}
use Rattle.std.proofs.lemmas.Iterator.Consumers.{YieldsList-end, YieldsList-turn}
use Rattle.std.proofs.lemmas.List.{length_push, take_all}
use Rattle.gb_tree.specs.DigestCache.{AreAmong, places_read, seen_in}
use Rattle.gb_tree.specs.declared.kept.ScannedFile.{ScannedFile}
use Rattle.gb_tree.proofs.Remembering.{reading_more}
use Rattle.gb_tree.proofs.digest_cache.DigestCache.remember.Goals as goal

pub loop-reading-preserved : goal.loop-reading-preserved
loop-reading-preserved c =
    let readings = c.args.readings.items in
    let n = length c.loop-reading.yielded in
    let x = c.in-Some.reading in
    let gives = c.into_iter-reading-iterator.ensures.into_iter_gives in
    let turn = YieldsList-turn (YieldsList-from_vec {s = c.into_iter-reading-iterator.result} readings gives.0 (gives.1 ∙ c.args.readings.ok.0)) c.loop-reading.yielded c.loop-reading.reading-iterator c.loop-reading.yielded_by c.next.result c.next.new.self x c.in-Some.is c.next.ensures.steps in
    record {
      can_next = tt;
      is_finite = tt;
      remembered = subst (λ (k : ℕ). AreAmong c.add_new.new.self (c.args.self.now ++ seen_in (take k readings))) (sym (length_push c.loop-reading.yielded x))
          (reading_more c.args.self.now c.loop-reading.self c.add_new.new.self readings n x turn.0 turn.1 c.loop-reading.invariant.remembered
          (subst (λ (files : List ScannedFile). AreAmong c.add_new.new.self (c.loop-reading.self ++ places_read files)) c.into_files.ensures c.add_new.ensures));
    }

pub returns : goal.returns
returns c =
    let readings = c.args.readings.items in
    let gives = c.into_iter-reading-iterator.ensures.into_iter_gives in
    let end = YieldsList-end (YieldsList-from_vec {s = c.into_iter-reading-iterator.result} readings gives.0 (gives.1 ∙ c.args.readings.ok.0)) c.loop-reading.yielded c.loop-reading.reading-iterator c.loop-reading.yielded_by c.next.result c.next.new.self c.in-None.is c.next.ensures.steps in
    subst (λ (rs : List (List ℕ × List ScannedFile)). AreAmong c.loop-reading.self (c.args.self.now ++ seen_in rs)) (take_all (length c.loop-reading.yielded) readings (omega (arith, end.1)))
    c.loop-reading.invariant.remembered
