use Rattle.std.proofs.Common.{arith, rules, sym, ◌∙◌, ◌<◌, refl}
use Rattle.gb_script.proofs.Contents.{closes, stays_open, goes_on, escape_low}
use Rattle.gb_script.proofs.lexing.content_by_runs.Goals as goal

pub returns-then-begins-clause-exact : goal.returns-then-begins-clause-exact
returns-then-begins-clause-exact c =
    rw (c.in_ok-new.ensures, c.past_first.ensures.rest)
    (closes _ _ c.runs.rest.now c.plain_run.result.0.now c.plain_run.result.1.now _ c.runs.invariant.so_far c.plain_run.ensures.run c.plain_run.ensures.rest c.in_ok-push_str.ensures.bytes (sym c.begins.ensures ∙ c.if-begins.true))

pub returns-in_default-clause-exact : goal.returns-in_default-clause-exact
returns-in_default-clause-exact c =
    stays_open _ c.runs.rest.now c.plain_run.result.0.now c.plain_run.result.1.now _ c.runs.invariant.so_far c.plain_run.ensures.rest (sym c.begins.ensures ∙ c.if-begins.false) (sym c.in_default.ensures.exact)

pub runs-preserved : goal.runs-preserved
runs-preserved c =
    let low : c.in-Some.found < 128 = escape_low c.plain_run.result.1.now _ _ (sym c.in-Some.ensures.exact) in
    record {
      text = search rules;
      so_far = goes_on _ _ c.runs.rest.now c.plain_run.result.0.now c.plain_run.result.1.now c.in-Some.following.now c.in-Some.found _ c.runs.invariant.so_far c.plain_run.ensures.run c.plain_run.ensures.rest (c.in_ok-push.ensures.bytes ∙ rw (c.in_ok-push.ensures.ascii low, c.in_ok-push_str.ensures.bytes) refl) (sym c.begins.ensures ∙ c.if-begins.false) (sym c.in-Some.ensures.exact);
      shorter = omega (arith, c.in-Some.ensures.shorter, c.plain_run.ensures.shorter, c.runs.invariant.shorter);
    }
