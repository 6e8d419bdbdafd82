use Rattle.std.proofs.Common.{◌≡◌, ◌≤◌, ◌+◌, ◌++◌, drop, length}
use Rattle.gb_folder.specs.Limits.{max_files}
use Rattle.gb_tree.specs.Property.{entries_in, held}
use Rattle.gb_tree.proofs.entries.add_entries.Given as goal

abbrev pub invariant-loop-place : goal.invariant-loop-place
invariant-loop-place l = record {
  few : length l.entries.items ≤ max_files + 1;
  held : held (l.entries.items ++ entries_in l.naming l.include l.exclude l.root (drop l.place-index l.places)) ≡ held (l.fn.entries.items ++ entries_in l.naming l.include l.exclude l.root l.places);
}
