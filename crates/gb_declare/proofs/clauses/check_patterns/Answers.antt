use Rattle.std.proofs.lemmas.Result.{err_from_is_err_and}
use Rattle.gb_declare.specs.Declaring.{pattern_faults}
use Rattle.gb_declare.proofs.FirstLemmas.{stopped_at}
use Rattle.gb_declare.proofs.clauses.check_patterns.Goals as goal

pub returns-in_err-check_pattern : goal.returns-in_err-check_pattern
returns-in_err-check_pattern c =
    let p = err_from_is_err_and c.from_residual.result c.from_residual.ensures.1 in
    rw (p.1, p.2) (stopped_at pattern_faults _ c.as_slice-text-items.result.now c.loop-text.text-index c.text-item.result _ c.loop-text.invariant c.loop-text-test.true c.text-item.is c.in_err-check_pattern.ensures)
