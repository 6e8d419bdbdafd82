use Rattle.std.proofs.Common.{◌≡◌, drop}
use Rattle.gb_semantics.specs.Made.{output_named}
use Rattle.gb_run.proofs.placing.output_named.Given as goal

abbrev pub invariant-loop-output : goal.invariant-loop-output
invariant-loop-output l = output_named (drop l.output-index l.outputs) l.name ≡ output_named l.outputs l.name
