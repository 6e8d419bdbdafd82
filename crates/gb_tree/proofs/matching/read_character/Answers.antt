use Rattle.std.proofs.Common.{arith, ◌≡◌, ◌++◌, false, sym, ap, ◌∙◌, drop, take, get_or, ◌||◌, ◌&&◌}
use Rattle.std.proofs.lemmas.Iterator.{YieldsList-from_chars}
use Rattle.std.proofs.lemmas.Iterator.Consumers.{YieldsList-turn, YieldsList-end}
use Rattle.std.proofs.lemmas.List.{at_drop_all, length-set, length_push, take-append-drop}
use Rattle.std.specs.Str.{chars}
use Rattle.gb_tree.specs.Pattern.{is_star, represents}
use Rattle.gb_tree.specs.Passes.{pass, fits_read}
use Rattle.gb_tree.proofs.GoesOn.{pass_on}
use Rattle.gb_tree.proofs.matching.read_character.Goals as goal

pub bounds-states-index : goal.bounds-states-index
bounds-states-index c =
    let turn = YieldsList-turn (YieldsList-from_chars c.args.pattern.now c.utf8.pattern cc) c.loop-item.yielded _ c.loop-item.yielded_by _ _ c.in-Some.item c.in-Some.is c.next.ensures.steps in
    omega (arith, turn.0, c.requires, c.loop-item.invariant.count, c.loop-item.invariant.size)

pub bounds-states-index-in-loop-item : goal.bounds-states-index-in-loop-item
bounds-states-index-in-loop-item c =
    let turn = YieldsList-turn (YieldsList-from_chars c.args.pattern.now c.utf8.pattern cc) c.loop-item.yielded _ c.loop-item.yielded_by _ _ c.in-Some.item c.in-Some.is c.next.ensures.steps in
    omega (arith, turn.0, c.requires, c.loop-item.invariant.count, c.loop-item.invariant.size)

pub loop-item-preserved : goal.loop-item-preserved
loop-item-preserved c =
    let turn = YieldsList-turn (YieldsList-from_chars c.args.pattern.now c.utf8.pattern cc) c.loop-item.yielded _ c.loop-item.yielded_by _ _ c.in-Some.item c.in-Some.is c.next.ensures.steps in
    let old = c.loop-item in
    let at : c.in-Some.item ≡ _ = turn.1 ∙ ap (λ i. get_or (chars c.args.pattern.now) i c.in-Some.item) (sym old.invariant.count) in
    let more = pass_on is_star (fits_read represents c.args.read) old.pass.entered old.pass.waiting old.states (chars c.args.pattern.now) old.index c.in-Some.item
    c.represents.result c.over.result c.over.new.self.entered c.over.new.self.waiting
    (omega (arith, turn.0, c.requires, old.invariant.count, old.invariant.size)) (omega (arith, turn.0, old.invariant.count)) at
    (ap (λ b. (get_or old.states old.index false || old.pass.waiting) && b) c.represents.ensures) c.over.ensures.exists c.over.ensures.entered c.over.ensures.waiting in
    record {
      count = omega (arith, old.invariant.count, length_push old.yielded c.in-Some.item);
      size = length-set old.states old.index c.over.result ∙ old.invariant.size;
      states = more.0 ∙ old.invariant.states;
      ended = more.1 ∙ old.invariant.ended;
    }

pub returns-clause-states : goal.returns-clause-states
returns-clause-states c =
    let end = YieldsList-end (YieldsList-from_chars c.args.pattern.now c.utf8.pattern cc) c.loop-item.yielded _ c.loop-item.yielded_by _ _ c.in-None.is c.next.ensures.steps in
    let old = c.loop-item in
    sym (take-append-drop old.index old.states)
    ∙ sym (at_drop_all (λ ps. take old.index old.states ++ (pass is_star (fits_read represents c.args.read) old.pass.entered old.pass.waiting (drop old.index old.states) ps).0) (chars c.args.pattern.now) old.index (omega (arith, end.1, old.invariant.count)))
    ∙ old.invariant.states

pub returns-clause-ended : goal.returns-clause-ended
returns-clause-ended c =
    let end = YieldsList-end (YieldsList-from_chars c.args.pattern.now c.utf8.pattern cc) c.loop-item.yielded _ c.loop-item.yielded_by _ _ c.in-None.is c.next.ensures.steps in
    let old = c.loop-item in
    sym (at_drop_all (λ ps. (pass is_star (fits_read represents c.args.read) old.pass.entered old.pass.waiting (drop old.index old.states) ps).1) (chars c.args.pattern.now) old.index (omega (arith, end.1, old.invariant.count)))
    ∙ old.invariant.ended
