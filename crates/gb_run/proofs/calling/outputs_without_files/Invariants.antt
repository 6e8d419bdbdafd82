use Rattle.std.proofs.Common.{◌≡◌, ◌++◌, map, drop}
use Rattle.gb_plan.specs.Task.{given_outputs}
use Rattle.gb_run.proofs.calling.outputs_without_files.Given as goal

abbrev pub invariant-loop-output : goal.invariant-loop-output
invariant-loop-output l = map (λ output. (output.name, output.form)) l.made ++ given_outputs (drop l.output-index l.outputs) ≡ given_outputs l.outputs
