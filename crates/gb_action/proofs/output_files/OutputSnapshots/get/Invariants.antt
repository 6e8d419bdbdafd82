use Rattle.std.proofs.Common.{◌≡◌, drop}
use Rattle.gb_action.specs.Outputs.{files_of}
use Rattle.gb_action.proofs.output_files.OutputSnapshots.get.Given as goal

abbrev pub invariant-loop-output : goal.invariant-loop-output
invariant-loop-output l = files_of l.output-items l.name ≡ files_of (drop l.output-index l.output-items) l.name
