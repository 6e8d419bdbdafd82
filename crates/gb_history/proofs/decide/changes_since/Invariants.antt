use Rattle.std.proofs.Common.{◌≡◌, take}
use Rattle.std.specs.List.{flat_map, zip}
use Rattle.gb_history.specs.Decision.{changes_of}
use Rattle.gb_history.proofs.decide.changes_since.Given as goal

abbrev pub invariant-loop-at : goal.invariant-loop-at
invariant-loop-at l = l.lists ≡ flat_map (changes_of l.incremental) (take l.at (zip l.old l.new))
