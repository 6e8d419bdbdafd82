use Rattle.gb_script.proofs.Runs.{line_boundary}
use Rattle.gb_script.proofs.lexing.past_line.Goals as goal

pub split_at-requires : goal.split_at-requires
split_at-requires c = rw (c.line_len.ensures, c.as_bytes.ensures.value) (line_boundary c.args.text.now)
