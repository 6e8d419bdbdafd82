use Rattle.std.proofs.Common.{◌≡◌, ◌++◌, true, drop, take}
use Rattle.std.specs.List.{AllByRecursion}
use Rattle.gb_core.specs.Place.{is_place}
use Rattle.gb_tree.specs.Tree.{entries_from}
use Rattle.gb_tree.proofs.output.entries_from.Given as goal

abbrev pub invariant-loop-place : goal.invariant-loop-place
invariant-loop-place l = record {
  entries : l.entries.items ++ entries_from l.root (drop l.place-index l.places) ≡ entries_from l.root l.places;
  placed : AllByRecursion (λ place. is_place place ≡ true) (take l.place-index l.places);
}
