use Rattle.std.proofs.Common.{◌<◌, ◌≤◌, ◌≢◌, ℕ, drop, take}
use Rattle.std.specs.declared.cmp.Ordering.TheVariants.{Greater}
use Rattle.gb_provider.specs.Names.{names_order}
use Rattle.gb_provider.proofs.circle_names.least_place.Given as goal

abbrev pub invariant-loop-i : goal.invariant-loop-i
invariant-loop-i l = record {
  within : l.least ≤ l.count;
  so_far : (k : ℕ) → k < l.i → names_order (take l.count (drop l.least l.names)) (take l.count (drop k l.names)) ≢ Greater;
}
