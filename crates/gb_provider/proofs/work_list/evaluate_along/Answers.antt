use Rattle.std.proofs.Common.{◌≡◌, ◌<◌, ℕ, List, length, refl, slice_index, sym, ◌∙◌, ap, subst, arith}
use Rattle.gb_provider.specs.Search.{IsPastAt, IsPathEnd, known}
use Rattle.gb_provider.proofs.EvaluateLemmas.{circle_reported, looked_there, looked_settles, looked_waits, awaited_none, new_state}
use Rattle.gb_provider.proofs.PastLemmas.{past_popped, past_pushed, are_past_kept, settled_extends, opened_extends}
use Rattle.gb_provider.proofs.SearchLemmas.{started_search, top_open, top_within, settled_search, settled_less, opened_search, opened_less, no_answer, path_circle, ended_sound}
use Rattle.gb_provider.proofs.work_list.evaluate_along.Goals as goal

pub loop-at-init : goal.loop-at-init
loop-at-init g c =
    let within : c.args.entry < length c.args.states.now.items = omega (arith, c.requires.entry, c.requires.same) in
    let is_new = new_state c.args.states.now.items c.args.entry within c.requires.unknown (c.requires.sound.closed c.args.entry) in
    let found = started_search _ c.args.entry c.args.states.now.items c.requires.same c.requires.sound is_new in
    record {
      search = rw (c.in_ok-enter.ensures.states, c.in_ok-enter.ensures.path, c.requires.path) found;
      past = rw (c.in_ok-enter.ensures.path, c.in_ok-enter.ensures.pasts, c.requires.path, c.requires.pasts) (λ rule there. tt, tt);
      kept = refl;
    }

pub look-requires-clause-at : goal.look-requires-clause-at
look-requires-clause-at g c =
    let on_path = rw c.in-Some.ensures.items at c.loop-at.invariant.search in
    let same = ap (λ entries. length (g.E.Entries.rules entries)) c.loop-at.invariant.kept in
    let below : c.in-Some.at < length (g.E.Entries.rules c.loop-at.entries) = omega (arith, top_within _ _ _ _ _ on_path, on_path.same, same) in
    below

pub look-requires-clause-past : goal.look-requires-clause-past
look-requires-clause-past g c =
    let on_past = rw (c.in-Some.ensures.items, c.in-Some-pop.ensures.items) at c.loop-at.invariant.past in
    let popped = past_popped (g.E.Entries.rules c.args.entries.now) (known c.loop-at.states.items) c.pop.new.self.items c.pop-in-Some.new.self.items c.in-Some.at c.in-Some-pop.past on_past in
    subst (λ entries. IsPastAt (g.E.Entries.rules entries) (known c.deref.result.now) c.in-Some.at c.in-Some-pop.past) (sym c.loop-at.invariant.kept)
    (subst (λ states. IsPastAt (g.E.Entries.rules c.args.entries.now) (known states) c.in-Some.at c.in-Some-pop.past) (sym c.deref.ensures.value) popped.1)

pub put-requires : goal.put-requires
put-requires g c =
    let on_path = rw c.in-Some.ensures.items at c.loop-at.invariant.search in
    top_within _ _ _ _ _ on_path

pub loop-at-smaller-in-Settles : goal.loop-at-smaller-in-Settles
loop-at-smaller-in-Settles g c =
    let on_path = rw c.in-Some.ensures.items at c.loop-at.invariant.search in
    let kept = ap g.E.Entries.rules c.loop-at.invariant.kept in
    let look = c.in_ok-look.ensures.look in
    let there = looked_there _ _ kept c.loop-at.states.items c.deref.result.now c.deref.ensures.value c.in-Some.at c.in_ok-look.look.reading look in
    let is = looked_settles _ _ kept c.loop-at.states.items c.deref.result.now c.deref.ensures.value c.in-Some.at c.in_ok-look.look.reading look c.in-Settles.answer c.in-Settles.is in
    rw c.put.ensures (settled_less _ _ _ _ _ on_path _ there c.in-Settles.answer is)

pub loop-at-preserved-in-Settles : goal.loop-at-preserved-in-Settles
loop-at-preserved-in-Settles g c =
    let on_path = rw c.in-Some.ensures.items at c.loop-at.invariant.search in
    let kept = ap g.E.Entries.rules c.loop-at.invariant.kept in
    let look = c.in_ok-look.ensures.look in
    let there = looked_there _ _ kept c.loop-at.states.items c.deref.result.now c.deref.ensures.value c.in-Some.at c.in_ok-look.look.reading look in
    let is = looked_settles _ _ kept c.loop-at.states.items c.deref.result.now c.deref.ensures.value c.in-Some.at c.in_ok-look.look.reading look c.in-Settles.answer c.in-Settles.is in
    let on_past = rw (c.in-Some.ensures.items, c.in-Some-pop.ensures.items) at c.loop-at.invariant.past in
    let popped = past_popped (g.E.Entries.rules c.args.entries.now) (known c.loop-at.states.items) c.pop.new.self.items c.pop-in-Some.new.self.items c.in-Some.at c.in-Some-pop.past on_past in
    let extends = settled_extends (g.E.Entries.rules c.args.entries.now) c.loop-at.states.items c.in-Some.at c.in-Settles.answer (top_open _ _ _ _ _ on_path) in
    record {
      search = rw c.put.ensures (settled_search _ _ _ _ _ on_path _ there c.in-Settles.answer is);
      past = rw c.put.ensures (are_past_kept _ _ _ extends _ _ popped.0);
      kept = c.in_ok-look.ensures.kept ∙ c.loop-at.invariant.kept;
    }

pub returns-then-is_open-clause-evaluated : goal.returns-then-is_open-clause-evaluated
returns-then-is_open-clause-evaluated g c =
    let on_path = rw c.in-Some.ensures.items at c.loop-at.invariant.search in
    let kept = ap g.E.Entries.rules c.loop-at.invariant.kept in
    let look = c.in_ok-look.ensures.look in
    let there = looked_there _ _ kept c.loop-at.states.items c.deref.result.now c.deref.ensures.value c.in-Some.at c.in_ok-look.look.reading look in
    let is = looked_waits _ _ kept c.loop-at.states.items c.deref.result.now c.deref.ensures.value c.in-Some.at c.in_ok-look.look.reading look c.in-Waits.operand c.in-Waits.is in
    let pushed = c.deref-then-is_open.ensures.value ∙ c.in_ok-keep-in-Waits.ensures.path in
    let ends = subst (λ path. IsPathEnd path c.in-Waits.operand c.circle_from.result) pushed c.circle_from.ensures in
    circle_reported _ _ _ _ _ c.circle_from.result (λ k below on. (no_answer _ _ _ _ _ on_path _ there _ is k below on, path_circle _ _ _ _ _ on_path _ there _ is k below on)) ends

pub loop-at-smaller : goal.loop-at-smaller
loop-at-smaller g c =
    let on_path = rw c.in-Some.ensures.items at c.loop-at.invariant.search in
    let kept = ap g.E.Entries.rules c.loop-at.invariant.kept in
    let look = c.in_ok-look.ensures.look in
    let there = looked_there _ _ kept c.loop-at.states.items c.deref.result.now c.deref.ensures.value c.in-Some.at c.in_ok-look.look.reading look in
    let is = looked_waits _ _ kept c.loop-at.states.items c.deref.result.now c.deref.ensures.value c.in-Some.at c.in_ok-look.look.reading look c.in-Waits.operand c.in-Waits.is in
    let within : c.in-Waits.operand < length c.loop-at.states.items = rw (c.in-Waits.is, c.deref.ensures.value) at c.in_ok-look.ensures.within in
    let is_new = new_state c.loop-at.states.items c.in-Waits.operand within (awaited_none (known c.loop-at.states.items) _ c.in-Waits.operand is) c.if-is_open.ensures.closed in
    rw c.in_ok-enter-in-Waits.ensures.states (opened_less _ _ _ _ _ on_path _ there _ is is_new)

pub loop-at-preserved : goal.loop-at-preserved
loop-at-preserved g c =
    let on_path = rw c.in-Some.ensures.items at c.loop-at.invariant.search in
    let kept = ap g.E.Entries.rules c.loop-at.invariant.kept in
    let look = c.in_ok-look.ensures.look in
    let there = looked_there _ _ kept c.loop-at.states.items c.deref.result.now c.deref.ensures.value c.in-Some.at c.in_ok-look.look.reading look in
    let is = looked_waits _ _ kept c.loop-at.states.items c.deref.result.now c.deref.ensures.value c.in-Some.at c.in_ok-look.look.reading look c.in-Waits.operand c.in-Waits.is in
    let within : c.in-Waits.operand < length c.loop-at.states.items = rw (c.in-Waits.is, c.deref.ensures.value) at c.in_ok-look.ensures.within in
    let is_new = new_state c.loop-at.states.items c.in-Waits.operand within (awaited_none (known c.loop-at.states.items) _ c.in-Waits.operand is) c.if-is_open.ensures.closed in
    let on_past = rw (c.in-Some.ensures.items, c.in-Some-pop.ensures.items) at c.loop-at.invariant.past in
    let popped = past_popped (g.E.Entries.rules c.args.entries.now) (known c.loop-at.states.items) c.pop.new.self.items c.pop-in-Some.new.self.items c.in-Some.at c.in-Some-pop.past on_past in
    let looked = subst (λ states. IsPastAt (g.E.Entries.rules c.args.entries.now) (known states) c.in-Some.at c.in_ok-look.look.past) c.deref.ensures.value
    (subst (λ entries. IsPastAt (g.E.Entries.rules entries) (known c.deref.result.now) c.in-Some.at c.in_ok-look.look.past) c.loop-at.invariant.kept c.in_ok-look.ensures.past) in
    let one_more = past_pushed _ _ _ _ _ _ popped.0 looked in
    let two_more = past_pushed _ _ _ _ c.in-Waits.operand 0 one_more (λ rule there. tt) in
    let extends = opened_extends (g.E.Entries.rules c.args.entries.now) c.loop-at.states.items c.in-Waits.operand is_new in
    record {
      search = rw (c.in_ok-enter-in-Waits.ensures.states, c.in_ok-enter-in-Waits.ensures.path, c.in_ok-keep-in-Waits.ensures.path) (opened_search _ _ _ _ _ on_path _ there _ is is_new);
      past = rw (c.in_ok-enter-in-Waits.ensures.states, c.in_ok-enter-in-Waits.ensures.pasts, c.in_ok-keep-in-Waits.ensures.pasts, c.in_ok-enter-in-Waits.ensures.path, c.in_ok-keep-in-Waits.ensures.path) (are_past_kept _ _ _ extends _ _ two_more);
      kept = c.in_ok-look.ensures.kept ∙ c.loop-at.invariant.kept;
    }

pub returns-clause-evaluated : goal.returns-clause-evaluated
returns-clause-evaluated g c =
    let search = c.loop-at.invariant.search in
    let empty : length c.loop-at.path.items ≡ 0 = omega (arith, c.in_default.ensures.cases.0, c.loop-at.path.ok.0) in
    (search.same, ended_sound _ _ _ _ search empty, search.done empty)

pub circle_from-requires : goal.circle_from-requires
circle_from-requires g c =
    let on_path = rw c.in-Some.ensures.items at c.loop-at.invariant.search in
    let pushed = c.deref-then-is_open.ensures.value ∙ c.in_ok-keep-in-Waits.ensures.path in
    subst (λ (path : List ℕ). (k : ℕ) × (k < length path) × (slice_index path k ≡ c.in-Waits.operand)) (sym pushed) (on_path.listed c.in-Waits.operand c.if-is_open.ensures.open)
