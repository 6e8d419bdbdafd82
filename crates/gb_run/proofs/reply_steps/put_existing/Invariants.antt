use Rattle.std.proofs.Common.{◌≡◌}
use Rattle.std.specs.Iterator.Adapters.{zip_first, zip_second}
use Rattle.std.specs.Slice.Iter.{iter_rest}
use Rattle.gb_run.specs.Named.{put as put_files, existing}
use Rattle.gb_run.specs.Steps.{put_steps}
use Rattle.gb_run.specs.ChangeTexts.{steps_in}
use Rattle.gb_run.proofs.reply_steps.put_existing.Given as goal

abbrev pub invariant-loop-output : goal.invariant-loop-output
invariant-loop-output l =
    put_steps (steps_in l.steps) (put_files (existing (iter_rest (zip_first l.output-iterator)) (iter_rest (zip_second l.output-iterator))))
    ≡ put_steps (steps_in l.fn.steps) (put_files (existing l.outputs l.observed))
