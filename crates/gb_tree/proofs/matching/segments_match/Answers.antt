use Rattle.std.proofs.Common.{arith, lit<, ◌≤◌, length, false, true, [], ◌∷◌, ◌++◌, Some, None, sym, ap, ◌∙◌, drop}
use Rattle.std.proofs.lemmas.Iterator.Splits.{YieldsList-from_str_split}
use Rattle.std.proofs.lemmas.Iterator.Consumers.{YieldsList-at, YieldsList-turn, YieldsList-end}
use Rattle.std.proofs.lemmas.List.{at_drop_all, length_push}
use Rattle.gb_core.specs.Place.{segments}
use Rattle.gb_tree.proofs.Parts.{segments_within}
use Rattle.gb_tree.specs.Pattern.{is_double_star, segment_matches}
use Rattle.gb_tree.specs.Passes.{pass, fits_read, goes_on}
use Rattle.gb_tree.proofs.GoesOn.{read_on, goes_on-start, goes_on-end}
use Rattle.gb_tree.proofs.matching.segments_match.Goals as goal

pub read_segment-matched-requires : goal.read_segment-matched-requires
read_segment-matched-requires c = omega (arith, c.requires.fit, segments_within c.args.pattern.now)

pub read_segment-matched-requires-in-loop-segment : goal.read_segment-matched-requires-in-loop-segment
read_segment-matched-requires-in-loop-segment c = omega (arith, c.requires.fit, segments_within c.args.pattern.now, c.loop-segment.invariant.size)

pub loop-segment-init : goal.loop-segment-init
loop-segment-init c =
    let ps = segments c.args.pattern.now in
    let xs = segments c.args.path.now in
    let first = c.read_segment-matched in
    let fit : length ps ≤ length c.args.states.now = omega (arith, c.requires.fit, segments_within c.args.pattern.now) in
    let start = c.args.states.now in
    let left = pass is_double_star (fits_read segment_matches None) true false start ps in
    record {
      whole =
          ap (λ ss. goes_on is_double_star segment_matches ss ps first.result xs) first.ensures.states
          ∙ ap (λ e. goes_on is_double_star segment_matches left.0 ps e xs) first.ensures.ended
          ∙ goes_on-start is_double_star segment_matches start ps true xs c.requires.none fit;
      size = first.auto.states;
      ended =
          ap (λ ss. goes_on is_double_star segment_matches ss ps first.result []) first.ensures.states
          ∙ ap (λ e. goes_on is_double_star segment_matches left.0 ps e []) first.ensures.ended
          ∙ goes_on-end is_double_star segment_matches (fits_read segment_matches None) start ps true false fit
          ∙ sym first.ensures.ended;
    }

pub loop-segment-preserved : goal.loop-segment-preserved
loop-segment-preserved c =
    let ps = segments c.args.pattern.now in
    let xs = segments c.args.path.now in
    let old = c.loop-segment in
    let next = c.read_segment-matched-in-loop-segment in
    let turn = YieldsList-turn (YieldsList-at c.into_iter-segment-iterator.ensures.into_iter_gives (YieldsList-from_str_split 47 c.args.path.now (lit< tt) c.split-segment-items.ensures.text c.split-segment-items.ensures.has_more c.split-segment-items.ensures.pattern)) old.yielded _ old.yielded_by _ _ c.in-Some.segment c.in-Some.is c.next.ensures.steps in
    let fit : length ps ≤ length old.states = omega (arith, c.requires.fit, segments_within c.args.pattern.now, old.invariant.size) in
    let good = fits_read segment_matches (Some c.in-Some.segment.now) in
    let left = pass is_double_star good false false old.states ps in
    record {
      whole =
          ap (λ ss. goes_on is_double_star segment_matches ss ps next.result (drop (length (old.yielded ++ c.in-Some.segment ∷ [])) xs)) next.ensures.states
          ∙ ap (λ e. goes_on is_double_star segment_matches left.0 ps e (drop (length (old.yielded ++ c.in-Some.segment ∷ [])) xs)) next.ensures.ended
          ∙ ap (λ n. goes_on is_double_star segment_matches left.0 ps left.1 (drop n xs)) (length_push old.yielded c.in-Some.segment)
          ∙ read_on is_double_star segment_matches old.states ps old.matched xs (length old.yielded) c.in-Some.segment.now fit turn.0 turn.1
          ∙ old.invariant.whole;
      size = next.auto.states ∙ old.invariant.size;
      ended =
          ap (λ ss. goes_on is_double_star segment_matches ss ps next.result []) next.ensures.states
          ∙ ap (λ e. goes_on is_double_star segment_matches left.0 ps e []) next.ensures.ended
          ∙ goes_on-end is_double_star segment_matches good old.states ps false false fit
          ∙ sym next.ensures.ended;
    }

pub returns : goal.returns
returns c =
    let ps = segments c.args.pattern.now in
    let old = c.loop-segment in
    let end = YieldsList-end (YieldsList-at c.into_iter-segment-iterator.ensures.into_iter_gives (YieldsList-from_str_split 47 c.args.path.now (lit< tt) c.split-segment-items.ensures.text c.split-segment-items.ensures.has_more c.split-segment-items.ensures.pattern)) old.yielded _ old.yielded_by _ _ c.in-None.is c.next.ensures.steps in
    sym old.invariant.ended
    ∙ sym (at_drop_all (λ xs. goes_on is_double_star segment_matches old.states ps old.matched xs) (segments c.args.path.now) (length old.yielded) (omega (arith, end.1)))
    ∙ old.invariant.whole
