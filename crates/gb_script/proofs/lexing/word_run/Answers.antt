use Rattle.gb_script.proofs.Runs.{word_boundary}
use Rattle.gb_script.proofs.lexing.word_run.Goals as goal

pub split_at-requires : goal.split_at-requires
split_at-requires c = rw (c.word_len.ensures, c.as_bytes.ensures.value) (word_boundary c.args.text.now c.utf8.text c.requires)
