use Rattle.std.proofs.Common.{◌≡◌, ◌++◌, drop, map}
use Rattle.gb_folder.specs.Files.{Files}
use Rattle.gb_tree.specs.Prints.{digests_of}
use Rattle.gb_run.specs.Digests.{prints_at}
use Rattle.gb_run.proofs.digests.Digests.prints.Given as goal

abbrev pub invariant-loop-output : goal.invariant-loop-output
invariant-loop-output l = record {
  named : map (λ prints. prints.0) l.made.items ++ map (λ output. output.name) (drop l.output-index l.outputs) ≡ map (λ output. output.name) l.outputs;
  prints : (files : Files) → l.self ≡ digests_of files → l.made.items ++ prints_at (drop l.output-index l.outputs) files ≡ prints_at l.outputs files;
}
