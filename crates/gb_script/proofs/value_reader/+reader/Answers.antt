use Rattle.std.proofs.Common.{◌≡◌, ◌+◌, ◌-◌, ◌<◌, suc, true, [], ◌∷◌, length, map, arith, sym, ap, ◌∙◌, refl}
use Rattle.std.proofs.lemmas.Result.{err_from_is_err_and}
use Rattle.gb_script.specs.Lexing.{begins}
use Rattle.gb_script.specs.View.{link_of}
use Rattle.gb_script.specs.Reading.{is_sign, no_matter, past_at}
use Rattle.gb_script.specs.Readers.{link_at, inside_at, tree_at}
use Rattle.gb_script.specs.declared.token.Sign.TheVariants.{Comma, Dot}
use Rattle.gb_script.proofs.Loop.{goes_on, ends, is_done, too_many, pushed, begins_some, one_longer, starts_list, list_fails}
use Rattle.gb_script.proofs.Steps.{else_open, else_is, zip_alone, zip_is}
use Rattle.gb_script.proofs.value_reader.+reader.Goals as goal

pub expressions-returns-in_err-first-clause-exact : goal.expressions-returns-in_err-first-clause-exact
expressions-returns-in_err-first-clause-exact t c =
    let p = err_from_is_err_and c.from_residual.result c.from_residual.ensures.1 in
    rw (p.1, p.2) (list_fails (tree_at c.args.room) c.args.tokens.now _ c.in_err-first.ensures.exact)

pub expressions-others-init : goal.expressions-others-init
expressions-others-init t c =
    let one : c.push.new.self.items ≡ c.in_ok-first.first ∷ [] = rw (c.in_ok-push.ensures.items, c.new-expressions.ensures.items) refl in
    let size : length c.push.new.self.items ≡ 1 = ap length one in
    record {
      so_far = starts_list (tree_at c.args.room) c.args.tokens.now c.in_ok-first.rest.now c.in_ok-first.first c.push.new.self.items (length c.in_ok-first.rest.now + 1 - length c.push.new.self.items) c.in_ok-first.ensures.exact one (omega arith);
      shorter = c.in_ok-first.ensures.shorter;
      enough = omega arith;
    }

pub expressions-returns-in_err-next-clause-exact : goal.expressions-returns-in_err-next-clause-exact
expressions-returns-in_err-next-clause-exact t c =
    let p = err_from_is_err_and c.from_residual-in_err-next.result c.from_residual-in_err-next.ensures.1 in
    let begun : begins (is_sign Comma) c.others.rest.now ≡ true = sym c.begins.ensures ∙ c.others-test.true in
    let some : 0 < length c.others.rest.now = begins_some (is_sign Comma) _ begun in
    let count = length c.others.expressions.items in
    let all = length c.in_ok-first.rest.now in
    let fuel : all + 1 - count ≡ suc (all - count) = omega (arith, c.others.invariant.enough) in
    rw (p.1, p.2) (ends (is_sign Comma) no_matter (λ s. past_at (is_sign Comma) (tree_at c.args.room)) _ c.others.expressions.items (all + 1 - count) (all - count) tt c.others.rest.now _ begun fuel c.in_err-next.ensures.exact c.others.invariant.so_far)

pub expressions-others-preserved : goal.expressions-others-preserved
expressions-others-preserved t c =
    let begun : begins (is_sign Comma) c.others.rest.now ≡ true = sym c.begins.ensures ∙ c.others-test.true in
    let some : 0 < length c.others.rest.now = begins_some (is_sign Comma) _ begun in
    let old = c.others.expressions.items in
    let new = c.push-in-others.new.self.items in
    let more : length new ≡ length old + 1 = one_longer old new c.in_ok-next.next c.in_ok-push-2.ensures.items in
    let all = length c.in_ok-first.rest.now in
    let fuel : all + 1 - length old ≡ suc (all + 1 - length new) = omega (arith, c.others.invariant.enough) in
    record {
      so_far = goes_on (is_sign Comma) no_matter (λ s. past_at (is_sign Comma) (tree_at c.args.room)) old new (all + 1 - length old) (all + 1 - length new) tt tt c.others.rest.now c.in_ok-next.after.now c.in_ok-next.next _ begun fuel refl c.in_ok-push-2.ensures.items c.in_ok-next.ensures.exact c.others.invariant.so_far;
      shorter = omega (arith, c.in_ok-next.ensures.shorter, c.others.invariant.shorter);
      enough = omega (arith, c.in_ok-next.ensures.shorter, c.others.invariant.enough);
    }

pub expressions-returns-clause-exact : goal.expressions-returns-clause-exact
expressions-returns-clause-exact t c = is_done (is_sign Comma) no_matter (λ s. past_at (is_sign Comma) (tree_at c.args.room)) _ _ tt _ _ (sym c.begins.ensures ∙ c.others-test.false) c.others.invariant.so_far

pub steps-returns-then-len-eq-MAX_STEPS-clause-exact : goal.steps-returns-then-len-eq-MAX_STEPS-clause-exact
steps-returns-then-len-eq-MAX_STEPS-clause-exact t c =
    let begun : begins (is_sign Dot) c.steps.rest.now ≡ true = sym c.begins.ensures ∙ c.steps-test.true in
    let none : 64 - length c.steps.steps.items ≡ 0 = omega (arith, c.steps.steps.ok.0, c.len.ensures) in
    too_many (is_sign Dot) no_matter (λ s. link_at c.args.room (inside_at c.args.room)) (map link_of c.steps.steps.items) (64 - length c.steps.steps.items) tt c.steps.rest.now _ begun none c.steps.invariant.so_far

pub steps-returns-in_err-next-clause-exact : goal.steps-returns-in_err-next-clause-exact
steps-returns-in_err-next-clause-exact t c =
    let p = err_from_is_err_and c.from_residual.result c.from_residual.ensures.1 in
    let begun : begins (is_sign Dot) c.steps.rest.now ≡ true = sym c.begins.ensures ∙ c.steps-test.true in
    let count = length c.steps.steps.items in
    let fuel : 64 - count ≡ suc (63 - count) = omega (arith, c.steps.steps.ok.0, c.len.ensures, c.if-len-eq-MAX_STEPS.false, c.steps.invariant.limit) in
    rw (p.1, p.2) (ends (is_sign Dot) no_matter (λ s. link_at c.args.room (inside_at c.args.room)) _ (map link_of c.steps.steps.items) (64 - count) (63 - count) tt c.steps.rest.now _ begun fuel c.in_err-next.ensures.exact c.steps.invariant.so_far)

pub steps-steps-preserved : goal.steps-steps-preserved
steps-steps-preserved t c =
    let begun : begins (is_sign Dot) c.steps.rest.now ≡ true = sym c.begins.ensures ∙ c.steps-test.true in
    let old = c.steps.steps.items in
    let new = c.push.new.self.items in
    let more : length new ≡ length old + 1 = one_longer old new c.in_ok-next.next c.in_ok-push.ensures.items in
    let fuel : 64 - length old ≡ suc (64 - length new) = omega (arith, c.steps.steps.ok.0, c.len.ensures, c.if-len-eq-MAX_STEPS.false, c.steps.invariant.limit) in
    record {
      so_far = goes_on (is_sign Dot) no_matter (λ s. link_at c.args.room (inside_at c.args.room)) (map link_of old) (map link_of new) (64 - length old) (64 - length new) tt tt c.steps.rest.now c.in_ok-next.after.now (link_of c.in_ok-next.next) _ begun fuel refl (pushed link_of old new c.in_ok-next.next c.in_ok-push.ensures.items) c.in_ok-next.ensures.exact c.steps.invariant.so_far;
      shorter = omega (arith, c.in_ok-next.ensures.shorter, c.steps.invariant.shorter);
      limit = omega (arith, c.steps.steps.ok.0, c.len.ensures, c.if-len-eq-MAX_STEPS.false, c.steps.invariant.limit);
    }

pub steps-returns-clause-exact : goal.steps-returns-clause-exact
steps-returns-clause-exact t c = is_done (is_sign Dot) no_matter (λ s. link_at c.args.room (inside_at c.args.room)) _ _ tt _ _ (sym c.begins.ensures ∙ c.steps-test.false) c.steps.invariant.so_far

pub or_else-returns-in-Err-clause-exact : goal.or_else-returns-in-Err-clause-exact
or_else-returns-in-Err-clause-exact t c = else_open c.args.room c.in_ok-inner.inner c.args.tokens.now c.in_ok-inner.rest.now c.in_ok-other.rest.now c.in_ok-other.other c.in_ok-inner.ensures.exact c.in_ok-inner.ensures.room c.in_ok-other.ensures.exact c.in-Err.stop c.in-Err.ensures.exact

pub or_else-returns-in-Ok-clause-exact : goal.or_else-returns-in-Ok-clause-exact
or_else-returns-in-Ok-clause-exact t c = else_is c.args.room c.in_ok-inner.inner c.args.tokens.now c.in_ok-inner.rest.now c.in_ok-other.rest.now c.in_ok-other.other c.in_ok-inner.ensures.exact c.in_ok-inner.ensures.room c.in_ok-other.ensures.exact c.in-Ok.rest.now c.in-Ok.ensures.exact

pub zip-returns-in-Err-clause-exact : goal.zip-returns-in-Err-clause-exact
zip-returns-in-Err-clause-exact t c = zip_alone c.args.room c.in_ok-inner.inner c.args.tokens.now c.in_ok-inner.rest.now c.in_ok-other.rest.now c.in_ok-other.other c.in_ok-inner.ensures.exact c.in_ok-inner.ensures.room c.in_ok-other.ensures.exact c.in-Err.stop c.in-Err.ensures.exact

pub zip-returns-in-Ok-clause-exact : goal.zip-returns-in-Ok-clause-exact
zip-returns-in-Ok-clause-exact t c = zip_is c.args.room c.in_ok-inner.inner c.args.tokens.now c.in_ok-inner.rest.now c.in_ok-other.rest.now c.in_ok-other.other c.in_ok-inner.ensures.exact c.in_ok-inner.ensures.room c.in_ok-other.ensures.exact c.in-Ok.function c.in-Ok.rest.now c.in-Ok.ensures.exact
