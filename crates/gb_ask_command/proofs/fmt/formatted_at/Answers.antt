use Rattle.std.proofs.lemmas.Result.{err_from_is_err_and}
use Rattle.gb_ask_command.proofs.Treating.{formats_none}
use Rattle.gb_ask_command.proofs.fmt.formatted_at.Goals as goal

pub returns-in_err-copy-in-Err : goal.returns-in_err-copy-in-Err
returns-in_err-copy-in-Err c =
    let p = err_from_is_err_and c.from_residual.result c.from_residual.ensures.1 in
    rw (p.1, p.2) (formats_none c.args.place.now c.args.text.now)
