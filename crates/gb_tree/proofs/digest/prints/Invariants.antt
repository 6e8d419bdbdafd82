use Rattle.std.proofs.Common.{◌≡◌, ◌++◌, drop}
use Rattle.gb_tree.specs.Prints.{digests_of}
use Rattle.gb_tree.proofs.digest.prints.Given as goal

abbrev pub invariant-loop-path : goal.invariant-loop-path
invariant-loop-path l = l.digests.items ++ digests_of (drop l.path-index l.files) ≡ digests_of l.files
