use Rattle.std.proofs.Common.{◌≡◌, take}
use Rattle.gb_folder.specs.Files.{Files}
use Rattle.gb_tree.specs.Prints.{digests_of}
use Rattle.gb_run.specs.Steps.{after_steps}
use Rattle.gb_run.proofs.digests.Digests.follow_each.Given as goal

abbrev pub invariant-loop-step : goal.invariant-loop-step
invariant-loop-step l = (files : Files) → l.fn.self ≡ digests_of files → l.self ≡ digests_of (after_steps files (take l.step-index l.steps))
