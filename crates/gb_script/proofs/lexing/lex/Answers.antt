use Rattle.std.proofs.Common.{◌<◌, length, arith, rules, rules}
use Rattle.gb_script.proofs.Scans.{newline_next, gap_next, found_next, same_left, one_taken, none_left}
use Rattle.gb_script.proofs.lexing.lex.Goals as goal

pub parts-preserved-in-Newline : goal.parts-preserved-in-Newline
parts-preserved-in-Newline c =
    let some : 0 < length c.parts.rest.now = search rules in
    let step = newline_next c.parts.line c.parts.rest.now c.in_ok-part.after.now some (rw (← c.in-Newline.is) c.in_ok-part.ensures.exact) in
    record {
      text = search rules;
      tokens = same_left (λ p. p.0) _ _ _ _ step c.parts.invariant.tokens;
      lines = same_left (λ p. p.1) _ _ _ _ step c.parts.invariant.lines;
      low = omega (arith, c.in_ok-part.ensures.shorter, c.parts.invariant.low);
    }

pub parts-preserved-in-Gap : goal.parts-preserved-in-Gap
parts-preserved-in-Gap c =
    let some : 0 < length c.parts.rest.now = search rules in
    let step = gap_next c.parts.line c.parts.rest.now c.in_ok-part.after.now some (rw (← c.in-Gap.is) c.in_ok-part.ensures.exact) in
    record {
      text = search rules;
      tokens = same_left (λ p. p.0) _ _ _ _ step c.parts.invariant.tokens;
      lines = same_left (λ p. p.1) _ _ _ _ step c.parts.invariant.lines;
      low = omega (arith, c.in_ok-part.ensures.shorter, c.parts.invariant.low);
    }

pub parts-preserved : goal.parts-preserved
parts-preserved c =
    let some : 0 < length c.parts.rest.now = search rules in
    let step = found_next c.parts.line c.in-Found.token c.parts.rest.now c.in_ok-part.after.now some (rw (← c.in-Found.is) c.in_ok-part.ensures.exact) in
    record {
      text = search rules;
      tokens = one_taken (λ p. p.0) _ _ _ (c.in-Found.token, c.parts.line) _ _ step c.in_ok-push-in-Found.ensures.items c.parts.invariant.tokens;
      lines = one_taken (λ p. p.1) _ _ _ (c.in-Found.token, c.parts.line) _ _ step c.in_ok-push-in-Found-2.ensures.items c.parts.invariant.lines;
      low = omega (arith, c.in_ok-part.ensures.shorter, c.parts.invariant.low);
    }

pub returns-clause-tokens : goal.returns-clause-tokens
returns-clause-tokens c = none_left (λ p. p.0) _ _ c.parts.line c.parts.rest.now (search rules) c.parts.invariant.tokens

pub returns-clause-lines : goal.returns-clause-lines
returns-clause-lines c = none_left (λ p. p.1) _ _ c.parts.line c.parts.rest.now (search rules) c.parts.invariant.lines
