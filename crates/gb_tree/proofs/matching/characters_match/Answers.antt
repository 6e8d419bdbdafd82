use Rattle.std.proofs.Common.{arith, ◌≤◌, length, false, true, [], ◌∷◌, ◌++◌, Some, None, sym, ap, ◌∙◌, drop}
use Rattle.std.proofs.lemmas.Iterator.{YieldsList-from_chars}
use Rattle.std.proofs.lemmas.Iterator.Consumers.{YieldsList-turn, YieldsList-end}
use Rattle.std.proofs.lemmas.List.{at_drop_all, length_push}
use Rattle.std.specs.Str.{chars}
use Rattle.gb_tree.specs.Pattern.{is_star, represents}
use Rattle.gb_tree.specs.Passes.{pass, fits_read, goes_on}
use Rattle.gb_tree.proofs.GoesOn.{characters, read_on, goes_on-start, goes_on-end}
use Rattle.gb_tree.proofs.matching.characters_match.Goals as goal

pub read_character-matched-requires : goal.read_character-matched-requires
read_character-matched-requires c = omega (arith, c.requires.fit, characters c.args.pattern.now)

pub read_character-matched-requires-in-loop-character : goal.read_character-matched-requires-in-loop-character
read_character-matched-requires-in-loop-character c = omega (arith, c.requires.fit, characters c.args.pattern.now, c.loop-character.invariant.size)

pub loop-character-init : goal.loop-character-init
loop-character-init c =
    let ps = chars c.args.pattern.now in
    let xs = chars c.args.text.now in
    let first = c.read_character-matched in
    let fit : length ps ≤ length c.args.states.now = omega (arith, c.requires.fit, characters c.args.pattern.now) in
    let start = c.args.states.now in
    let left = pass is_star (fits_read represents None) true false start ps in
    record {
      whole =
          ap (λ ss. goes_on is_star represents ss ps first.result xs) first.ensures.states
          ∙ ap (λ e. goes_on is_star represents left.0 ps e xs) first.ensures.ended
          ∙ goes_on-start is_star represents start ps true xs c.requires.none fit;
      size = first.auto.states;
      ended =
          ap (λ ss. goes_on is_star represents ss ps first.result []) first.ensures.states
          ∙ ap (λ e. goes_on is_star represents left.0 ps e []) first.ensures.ended
          ∙ goes_on-end is_star represents (fits_read represents None) start ps true false fit
          ∙ sym first.ensures.ended;
    }

pub loop-character-preserved : goal.loop-character-preserved
loop-character-preserved c =
    let ps = chars c.args.pattern.now in
    let xs = chars c.args.text.now in
    let old = c.loop-character in
    let next = c.read_character-matched-in-loop-character in
    let turn = YieldsList-turn (YieldsList-from_chars c.args.text.now c.utf8.text cc) old.yielded _ old.yielded_by _ _ c.in-Some.character c.in-Some.is c.next.ensures.steps in
    let fit : length ps ≤ length old.states = omega (arith, c.requires.fit, characters c.args.pattern.now, old.invariant.size) in
    let good = fits_read represents (Some c.in-Some.character) in
    let left = pass is_star good false false old.states ps in
    record {
      whole =
          ap (λ ss. goes_on is_star represents ss ps next.result (drop (length (old.yielded ++ c.in-Some.character ∷ [])) xs)) next.ensures.states
          ∙ ap (λ e. goes_on is_star represents left.0 ps e (drop (length (old.yielded ++ c.in-Some.character ∷ [])) xs)) next.ensures.ended
          ∙ ap (λ n. goes_on is_star represents left.0 ps left.1 (drop n xs)) (length_push old.yielded c.in-Some.character)
          ∙ read_on is_star represents old.states ps old.matched xs (length old.yielded) c.in-Some.character fit turn.0 turn.1
          ∙ old.invariant.whole;
      size = next.auto.states ∙ old.invariant.size;
      ended =
          ap (λ ss. goes_on is_star represents ss ps next.result []) next.ensures.states
          ∙ ap (λ e. goes_on is_star represents left.0 ps e []) next.ensures.ended
          ∙ goes_on-end is_star represents good old.states ps false false fit
          ∙ sym next.ensures.ended;
    }

pub returns : goal.returns
returns c =
    let ps = chars c.args.pattern.now in
    let old = c.loop-character in
    let end = YieldsList-end (YieldsList-from_chars c.args.text.now c.utf8.text cc) old.yielded _ old.yielded_by _ _ c.in-None.is c.next.ensures.steps in
    sym old.invariant.ended
    ∙ sym (at_drop_all (λ xs. goes_on is_star represents old.states ps old.matched xs) (chars c.args.text.now) (length old.yielded) (omega (arith, end.1)))
    ∙ old.invariant.whole
