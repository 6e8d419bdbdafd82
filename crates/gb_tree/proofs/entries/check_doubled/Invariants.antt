use Rattle.std.proofs.Common.{◌≡◌, ◌≤◌, drop, length}
use Rattle.gb_core.specs.Lists.{first_of}
use Rattle.gb_tree.specs.Property.{doubled, paths_of}
use Rattle.gb_tree.proofs.entries.check_doubled.Given as goal

abbrev pub invariant-loop-index : goal.invariant-loop-index
invariant-loop-index l = record {
  within : l.index ≤ length l.entries;
  doubled : first_of (doubled (paths_of (drop l.index l.entries))) ≡ first_of (doubled (paths_of l.entries));
}
