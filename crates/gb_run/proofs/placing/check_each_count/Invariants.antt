use Rattle.std.proofs.Common.{◌≡◌, drop}
use Rattle.gb_run.specs.Placing.{count_faults}
use Rattle.gb_run.proofs.placing.check_each_count.Given as goal

abbrev pub invariant-loop-output : goal.invariant-loop-output
invariant-loop-output l = count_faults (drop l.output-index l.outputs) l.taken ≡ count_faults l.outputs l.taken
