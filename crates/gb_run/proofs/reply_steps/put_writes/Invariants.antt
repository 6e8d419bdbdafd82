use Rattle.std.proofs.Common.{◌≡◌, drop}
use Rattle.gb_semantics.specs.Made.{placed}
use Rattle.gb_run.specs.Named.{put as put_files}
use Rattle.gb_run.specs.Steps.{put_steps}
use Rattle.gb_run.specs.ChangeTexts.{steps_in}
use Rattle.gb_run.proofs.reply_steps.put_writes.Given as goal

abbrev pub invariant-loop-file : goal.invariant-loop-file
invariant-loop-file l = put_steps (steps_in l.steps) (put_files (placed l.outputs (drop l.file-index l.writes))) ≡ put_steps (steps_in l.fn.steps) (put_files (placed l.outputs l.writes))
