use Rattle.std.proofs.Common.{◌<◌, ◌↔◌, ◌⊎◌, ℕ, length, Contains}
use Rattle.gb_graph.specs.Places.{place_at}
use Rattle.gb_graph.proofs.Cuts.{IsCut}
use Rattle.gb_graph.proofs.overlaps.find_above.Given as goal

abbrev pub invariant-loop-end : goal.invariant-loop-end
invariant-loop-end l = (k : ℕ) → Contains l.found.items k
    ↔ (Contains l.initial.found.items k ⊎ ((k < length l.row) × IsCut l.text l.end (place_at l.row k)))
