use Rattle.std.proofs.Common.{◌≡◌, ◌+◌, ◌-◌, ◌<◌, suc, true, length, arith, sym, ◌∙◌, refl}
use Rattle.std.proofs.lemmas.Result.{err_from_is_err_and}
use Rattle.gb_script.specs.Lexing.{begins}
use Rattle.gb_script.specs.Reading.{no_matter}
use Rattle.gb_script.specs.Readers.{in_block}
use Rattle.gb_script.specs.Reporting.{line_left}
use Rattle.gb_script.specs.LineReaders.{clause_line_at}
use Rattle.gb_script.proofs.Loop.{goes_on, ends, is_done, begins_some, one_longer}
use Rattle.gb_script.proofs.lines.clause_lines.Goals as goal

pub returns-in_err-next-clause-exact : goal.returns-in_err-next-clause-exact
returns-in_err-next-clause-exact c =
    let p = err_from_is_err_and c.from_residual.result c.from_residual.ensures.1 in
    let begun : begins in_block c.clauses.rest.now ≡ true = sym c.is_in_block.ensures ∙ c.clauses-test.true in
    let some : 0 < length c.clauses.rest.now = begins_some in_block _ begun in
    let count = length c.clauses.lines.items in
    let all = length c.args.tokens.now in
    let fuel : all - count ≡ suc (all - count - 1) = omega (arith, c.clauses.invariant.enough) in
    rw (p.1, p.2) (ends in_block no_matter (λ s. clause_line_at (line_left c.args.text.now c.args.lexed.now.lines.items) c.args.room) _ c.clauses.lines.items (all - count) (all - count - 1) tt c.clauses.rest.now _ begun fuel c.in_err-next.ensures.exact c.clauses.invariant.so_far)

pub clauses-preserved : goal.clauses-preserved
clauses-preserved c =
    let begun : begins in_block c.clauses.rest.now ≡ true = sym c.is_in_block.ensures ∙ c.clauses-test.true in
    let some : 0 < length c.clauses.rest.now = begins_some in_block _ begun in
    let old = c.clauses.lines.items in
    let new = c.push.new.self.items in
    let more : length new ≡ length old + 1 = one_longer old new c.in_ok-next.next c.in_ok-push.ensures.items in
    let all = length c.args.tokens.now in
    let fuel : all - length old ≡ suc (all - length new) = omega (arith, c.clauses.invariant.enough) in
    record {
      so_far = goes_on in_block no_matter (λ s. clause_line_at (line_left c.args.text.now c.args.lexed.now.lines.items) c.args.room) old new (all - length old) (all - length new) tt tt c.clauses.rest.now c.in_ok-next.after.now c.in_ok-next.next _ begun fuel refl c.in_ok-push.ensures.items c.in_ok-next.ensures.exact c.clauses.invariant.so_far;
      enough = omega (arith, c.in_ok-next.ensures.shorter, c.clauses.invariant.enough);
    }

pub returns-clause-exact : goal.returns-clause-exact
returns-clause-exact c = is_done in_block no_matter (λ s. clause_line_at (line_left c.args.text.now c.args.lexed.now.lines.items) c.args.room) _ _ tt _ _ (sym c.is_in_block.ensures ∙ c.clauses-test.false) c.clauses.invariant.so_far
