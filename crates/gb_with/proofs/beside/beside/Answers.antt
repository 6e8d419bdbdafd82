use Rattle.std.proofs.lemmas.Result.{err_from_is_err_and}
use Rattle.gb_with.proofs.Shared.{separate-made, handed, once-broken, once-made, shared-made}
use Rattle.gb_with.proofs.beside.beside.Goals as goal

pub returns-in_err-add_firsts-clause-duplicate : goal.returns-in_err-add_firsts-clause-duplicate
returns-in_err-add_firsts-clause-duplicate g c = λ reported once _.
    let p = err_from_is_err_and c.from_residual.result c.from_residual.ensures.1 in
    absurd (once-broken c.args.first c.args.second c.new-table.result c.add_firsts.new.table c.new-table.ensures
    (c.add_firsts.ensures.duplicate (handed c.from_residual.result c.add_firsts.result p.0
    c.in_err-add_firsts.field-0.0 _ p.1 p.2 c.in_err-add_firsts.was reported)) once)

pub returns-in_err-add_seconds-clause-duplicate : goal.returns-in_err-add_seconds-clause-duplicate
returns-in_err-add_seconds-clause-duplicate g c = λ reported _ once.
    let p = err_from_is_err_and c.from_residual-in_err-add_seconds.result
    c.from_residual-in_err-add_seconds.ensures.1 in
    shared-made c.args.first c.args.second c.new-table.result c.add_firsts.new.table c.new-table.ensures
    c.in_ok-add_firsts.ensures.ok
    (c.add_seconds.ensures.duplicate (handed c.from_residual-in_err-add_seconds.result c.add_seconds.result p.0
    c.in_err-add_seconds.field-0.0 _ p.1 p.2 c.in_err-add_seconds.was reported)) once

pub returns-clause-once : goal.returns-clause-once
returns-clause-once g c =
    once-made c.args.first c.args.second c.new-table.result c.add_firsts.new.table c.new-table.ensures
    c.in_ok-add_firsts.ensures.ok c.add_seconds.new.table c.in_ok-add_firsts.ensures.new
    c.in_ok-add_seconds.ensures.new c.in_ok-add_seconds.ensures.ok

pub returns-clause-separate : goal.returns-clause-separate
returns-clause-separate g c =
    separate-made c.args.first c.args.second c.new-table.result c.add_firsts.new.table c.new-table.ensures
    c.in_ok-add_firsts.ensures.ok c.in_ok-add_seconds.ensures.new
