use Rattle.std.proofs.Common.{◌≡◌, ◌+◌, ◌-◌, ◌<◌, suc, true, [], ◌∷◌, length, arith, sym, ap, ◌∙◌, refl}
use Rattle.std.proofs.lemmas.Result.{err_from_is_err_and}
use Rattle.gb_script.specs.Lexing.{begins}
use Rattle.gb_script.specs.Reading.{is_sign, past_at, text_at, no_matter}
use Rattle.gb_script.specs.declared.token.Sign.TheVariants.{Comma}
use Rattle.gb_script.proofs.Loop.{goes_on, ends, is_done, begins_some, one_longer, starts_list, list_fails}
use Rattle.gb_script.proofs.part_readers.texts.Goals as goal

pub returns-in_err-first-clause-exact : goal.returns-in_err-first-clause-exact
returns-in_err-first-clause-exact c =
    let p = err_from_is_err_and c.from_residual.result c.from_residual.ensures.1 in
    rw (p.1, p.2) (list_fails text_at c.args.tokens.now _ c.in_err-first.ensures.exact)

pub others-init : goal.others-init
others-init c =
    let one : c.push.new.self ≡ c.in_ok-first.first ∷ [] = rw (c.in_ok-push.ensures.ok, c.new-texts.ensures) refl in
    let size : length c.push.new.self ≡ 1 = ap length one in
    record {
      so_far = starts_list text_at c.args.tokens.now c.in_ok-first.rest.now c.in_ok-first.first c.push.new.self (length c.in_ok-first.rest.now + 1 - length c.push.new.self) c.in_ok-first.ensures.exact one (omega arith);
      shorter = c.in_ok-first.ensures.shorter;
      enough = omega arith;
    }

pub returns-in_err-next-clause-exact : goal.returns-in_err-next-clause-exact
returns-in_err-next-clause-exact c =
    let p = err_from_is_err_and c.from_residual-in_err-next.result c.from_residual-in_err-next.ensures.1 in
    let begun : begins (is_sign Comma) c.others.rest.now ≡ true = sym c.begins.ensures ∙ c.others-test.true in
    let some : 0 < length c.others.rest.now = begins_some (is_sign Comma) _ begun in
    let count = length c.others.texts in
    let all = length c.in_ok-first.rest.now in
    let fuel : all + 1 - count ≡ suc (all - count) = omega (arith, c.others.invariant.enough) in
    rw (p.1, p.2) (ends (is_sign Comma) no_matter (λ s. past_at (is_sign Comma) text_at) _ c.others.texts (all + 1 - count) (all - count) tt c.others.rest.now _ begun fuel c.in_err-next.ensures.exact c.others.invariant.so_far)

pub others-preserved : goal.others-preserved
others-preserved c =
    let begun : begins (is_sign Comma) c.others.rest.now ≡ true = sym c.begins.ensures ∙ c.others-test.true in
    let some : 0 < length c.others.rest.now = begins_some (is_sign Comma) _ begun in
    let old = c.others.texts in
    let new = c.push-in-others.new.self in
    let more : length new ≡ length old + 1 = one_longer old new c.in_ok-next.next c.in_ok-push-2.ensures.ok in
    let all = length c.in_ok-first.rest.now in
    let fuel : all + 1 - length old ≡ suc (all + 1 - length new) = omega (arith, c.others.invariant.enough) in
    record {
      so_far = goes_on (is_sign Comma) no_matter (λ s. past_at (is_sign Comma) text_at) old new (all + 1 - length old) (all + 1 - length new) tt tt c.others.rest.now c.in_ok-next.after.now c.in_ok-next.next _ begun fuel refl c.in_ok-push-2.ensures.ok c.in_ok-next.ensures.exact c.others.invariant.so_far;
      shorter = omega (arith, c.in_ok-next.ensures.shorter, c.others.invariant.shorter);
      enough = omega (arith, c.in_ok-next.ensures.shorter, c.others.invariant.enough);
    }

pub returns-clause-exact : goal.returns-clause-exact
returns-clause-exact c = is_done (is_sign Comma) no_matter (λ s. past_at (is_sign Comma) text_at) _ _ tt _ _ (sym c.begins.ensures ∙ c.others-test.false) c.others.invariant.so_far
