use Rattle.std.proofs.Common.{◌≡◌, ◌+◌, ◌-◌, ◌<◌, suc, true, length, arith, sym, ◌∙◌, refl}
use Rattle.std.proofs.lemmas.Result.{err_from_is_err_and}
use Rattle.gb_script.specs.Lexing.{begins}
use Rattle.gb_script.specs.Reading.{is_any, no_matter}
use Rattle.gb_script.specs.Reporting.{line_left}
use Rattle.gb_script.specs.LineReaders.{statement_lines_at, script_lines_at}
use Rattle.gb_script.proofs.Loop.{goes_on, ends, is_done, begins_some, one_longer}
use Rattle.gb_script.proofs.lines.script_lines.Goals as goal

pub returns-in_err-next : goal.returns-in_err-next
unfolding script_lines_at
returns-in_err-next c =
    let p = err_from_is_err_and c.from_residual.result c.from_residual.ensures.1 in
    let begun : begins is_any c.statements.rest.now ≡ true = sym c.is_left.ensures ∙ c.statements-test.true in
    let some : 0 < length c.statements.rest.now = begins_some is_any _ begun in
    let count = length c.statements.lines.items in
    let all = length c.args.lexed.now.tokens.items in
    let fuel : all - count ≡ suc (all - count - 1) = omega (arith, c.statements.invariant.enough) in
    rw (p.1, p.2) (ends is_any no_matter (λ s. statement_lines_at (line_left c.args.text.now c.args.lexed.now.lines.items) 64) _ c.statements.lines.items (all - count) (all - count - 1) tt c.statements.rest.now _ begun fuel c.in_err-next.ensures.exact c.statements.invariant.so_far)

pub statements-preserved : goal.statements-preserved
statements-preserved c =
    let begun : begins is_any c.statements.rest.now ≡ true = sym c.is_left.ensures ∙ c.statements-test.true in
    let some : 0 < length c.statements.rest.now = begins_some is_any _ begun in
    let old = c.statements.lines.items in
    let new = c.push.new.self.items in
    let more : length new ≡ length old + 1 = one_longer old new c.in_ok-next.next c.in_ok-push.ensures.items in
    let all = length c.args.lexed.now.tokens.items in
    let fuel : all - length old ≡ suc (all - length new) = omega (arith, c.statements.invariant.enough) in
    record {
      so_far = goes_on is_any no_matter (λ s. statement_lines_at (line_left c.args.text.now c.args.lexed.now.lines.items) 64) old new (all - length old) (all - length new) tt tt c.statements.rest.now c.in_ok-next.after.now c.in_ok-next.next _ begun fuel refl c.in_ok-push.ensures.items c.in_ok-next.ensures.exact c.statements.invariant.so_far;
      enough = omega (arith, c.in_ok-next.ensures.shorter, c.statements.invariant.enough);
    }

pub returns : goal.returns
unfolding script_lines_at
returns c = is_done is_any no_matter (λ s. statement_lines_at (line_left c.args.text.now c.args.lexed.now.lines.items) 64) _ _ tt _ _ (sym c.is_left.ensures ∙ c.statements-test.false) c.statements.invariant.so_far
