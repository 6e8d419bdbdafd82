use Rattle.std.proofs.Common.{◌≡◌, drop}
use Rattle.gb_run.specs.Named.{removed}
use Rattle.gb_run.specs.Steps.{put_steps}
use Rattle.gb_run.specs.ChangeTexts.{steps_in}
use Rattle.gb_run.proofs.reply_steps.put_removals.Given as goal

abbrev pub invariant-loop-path : goal.invariant-loop-path
invariant-loop-path l = put_steps (steps_in l.steps) (removed l.outputs (drop l.path-index l.removes)) ≡ put_steps (steps_in l.fn.steps) (removed l.outputs l.removes)
