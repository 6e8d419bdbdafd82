use Rattle.gb_script.proofs.Runs.{plain_boundary}
use Rattle.gb_script.proofs.lexing.plain_run.Goals as goal

pub split_at-requires : goal.split_at-requires
split_at-requires c = rw (c.plain_len.ensures, c.as_bytes.ensures.value) (plain_boundary c.args.text.now)
