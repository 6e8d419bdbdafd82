use Rattle.std.proofs.Common.{arith, lit<, ◌≡◌, ◌++◌, sym, ap, ◌∙◌, drop, take, get_or, ◌&&◌}
use Rattle.std.proofs.lemmas.Iterator.Splits.{YieldsList-from_str_split}
use Rattle.std.proofs.lemmas.Iterator.Consumers.{YieldsList-at, YieldsList-turn, YieldsList-end}
use Rattle.std.proofs.lemmas.List.{at_drop_all, length-set, length_push, take-append-drop}
use Rattle.std.specs.Option.{option_copied}
use Rattle.gb_core.specs.Place.{segments}
use Rattle.gb_tree.specs.Pattern.{is_double_star, segment_matches}
use Rattle.gb_tree.specs.Passes.{pass, fits_read}
use Rattle.gb_tree.proofs.GoesOn.{pass_on_reported}
use Rattle.gb_tree.proofs.matching.read_segment.Goals as goal

pub bounds-states-index : goal.bounds-states-index
bounds-states-index c =
    let turn = YieldsList-turn (YieldsList-at c.into_iter-item-iterator.ensures.into_iter_gives (YieldsList-from_str_split 47 c.args.pattern.now (lit< tt) c.split-item-items.ensures.text c.split-item-items.ensures.has_more c.split-item-items.ensures.pattern)) c.loop-item.yielded _ c.loop-item.yielded_by _ _ c.in-Some.item c.in-Some.is c.next.ensures.steps in
    omega (arith, turn.0, c.requires, c.loop-item.invariant.count, c.loop-item.invariant.size)

pub bounds-states-index-in-loop-item : goal.bounds-states-index-in-loop-item
bounds-states-index-in-loop-item c =
    let turn = YieldsList-turn (YieldsList-at c.into_iter-item-iterator.ensures.into_iter_gives (YieldsList-from_str_split 47 c.args.pattern.now (lit< tt) c.split-item-items.ensures.text c.split-item-items.ensures.has_more c.split-item-items.ensures.pattern)) c.loop-item.yielded _ c.loop-item.yielded_by _ _ c.in-Some.item c.in-Some.is c.next.ensures.steps in
    omega (arith, turn.0, c.requires, c.loop-item.invariant.count, c.loop-item.invariant.size)

pub loop-item-preserved : goal.loop-item-preserved
loop-item-preserved c =
    let turn = YieldsList-turn (YieldsList-at c.into_iter-item-iterator.ensures.into_iter_gives (YieldsList-from_str_split 47 c.args.pattern.now (lit< tt) c.split-item-items.ensures.text c.split-item-items.ensures.has_more c.split-item-items.ensures.pattern)) c.loop-item.yielded _ c.loop-item.yielded_by _ _ c.in-Some.item c.in-Some.is c.next.ensures.steps in
    let old = c.loop-item in
    let at : c.in-Some.item.now ≡ _ = turn.1 ∙ ap (λ i. get_or (segments c.args.pattern.now) i c.in-Some.item.now) (sym old.invariant.count) in
    let more = pass_on_reported is_double_star (fits_read segment_matches (option_copied c.args.read)) old.pass.entered old.pass.waiting old.states (segments c.args.pattern.now) old.index c.in-Some.item.now
    c.is_double_star.result c.fits_here.result c.over.result c.over.new.self.entered c.over.new.self.waiting
    (omega (arith, turn.0, c.requires, old.invariant.count, old.invariant.size)) (omega (arith, turn.0, old.invariant.count)) at
    c.is_double_star.ensures
    (c.fits_here.ensures ∙ ap (λ b. b && fits_read segment_matches (option_copied c.args.read) c.in-Some.item.now) c.is_open-here.ensures) c.over.ensures.exists c.over.ensures.entered c.over.ensures.waiting in
    record {
      count = omega (arith, old.invariant.count, length_push old.yielded c.in-Some.item);
      size = length-set old.states old.index c.over.result ∙ old.invariant.size;
      states = more.0 ∙ old.invariant.states;
      ended = more.1 ∙ old.invariant.ended;
    }

pub returns-clause-states : goal.returns-clause-states
returns-clause-states c =
    let end = YieldsList-end (YieldsList-at c.into_iter-item-iterator.ensures.into_iter_gives (YieldsList-from_str_split 47 c.args.pattern.now (lit< tt) c.split-item-items.ensures.text c.split-item-items.ensures.has_more c.split-item-items.ensures.pattern)) c.loop-item.yielded _ c.loop-item.yielded_by _ _ c.in-None.is c.next.ensures.steps in
    let old = c.loop-item in
    sym (take-append-drop old.index old.states)
    ∙ sym (at_drop_all (λ ps. take old.index old.states ++ (pass is_double_star (fits_read segment_matches (option_copied c.args.read)) old.pass.entered old.pass.waiting (drop old.index old.states) ps).0) (segments c.args.pattern.now) old.index (omega (arith, end.1, old.invariant.count)))
    ∙ old.invariant.states

pub returns-clause-ended : goal.returns-clause-ended
returns-clause-ended c =
    let end = YieldsList-end (YieldsList-at c.into_iter-item-iterator.ensures.into_iter_gives (YieldsList-from_str_split 47 c.args.pattern.now (lit< tt) c.split-item-items.ensures.text c.split-item-items.ensures.has_more c.split-item-items.ensures.pattern)) c.loop-item.yielded _ c.loop-item.yielded_by _ _ c.in-None.is c.next.ensures.steps in
    let old = c.loop-item in
    sym (at_drop_all (λ ps. (pass is_double_star (fits_read segment_matches (option_copied c.args.read)) old.pass.entered old.pass.waiting (drop old.index old.states) ps).1) (segments c.args.pattern.now) old.index (omega (arith, end.1, old.invariant.count)))
    ∙ old.invariant.ended
