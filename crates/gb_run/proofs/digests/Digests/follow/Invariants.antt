use Rattle.std.proofs.Common.{◌≡◌, length}
use Rattle.gb_folder.specs.Files.{Files}
use Rattle.gb_tree.specs.Prints.{digests_of}
use Rattle.gb_run.specs.Steps.{after_steps}
use Rattle.gb_run.proofs.digests.Digests.follow.Given as goal

-- the steps that are left lead from the files so far to those after all steps
abbrev pub invariant-fours : goal.invariant-fours
invariant-fours l = (files : Files) → l.fn.self ≡ digests_of files
    → (held : Files) × (l.self ≡ digests_of held) × (after_steps held l.rest ≡ after_steps files l.steps)

abbrev pub decreases-fours : goal.decreases-fours
decreases-fours l = length l.rest
