use Rattle.std.proofs.Common.{◌≡◌, ◌++◌}
use Rattle.gb_folder.specs.Files.{files_under}
use Rattle.gb_run.specs.Digests.{digests_in}
use Rattle.gb_run.proofs.ByPlace.{AreBeneath, shown}
use Rattle.gb_run.proofs.Digested.{from_root}
use Rattle.gb_run.proofs.digests.found_under.Given as goal

-- what was found, and what is still to be found in the rest of the range
abbrev pub invariant-loop-text : goal.invariant-loop-text
invariant-loop-text l = record {
  so_far : l.found.items ++ from_root l.root (shown l.text-iterator) ≡ from_root l.root (files_under (digests_in l.held) l.root);
  beneath : AreBeneath l.root l.text-iterator;
}
