use Rattle.std.proofs.Common.{◌≡◌, ◌↔◌, ℕ, true, vec_len, length, Contains}
use Rattle.gb_graph.specs.Order.{rows}
use Rattle.gb_graph.specs.Ranked.{AreDistinct}
use Rattle.gb_graph.specs.Settled.{is_marked, missing}
use Rattle.gb_graph.specs.Cycle.{IsNextNumber, LeadsTo}
use Rattle.gb_graph.proofs.cycle.trail_of.Given as goal

abbrev pub invariant-loop-met : goal.invariant-loop-met
invariant-loop-met l = record {
  each : vec_len l.met ≡ length l.tasks;
  reported : (number : ℕ) → (is_marked l.met.items number ≡ true) ↔ Contains l.trail.items number;
  leads : LeadsTo (IsNextNumber l.tasks (rows l.after) l.marks) l.start l.trail.items l.at;
  separate : AreDistinct l.trail.items;
  marked : (number : ℕ) → Contains l.trail.items number → is_marked l.marks number ≡ true;
  here : is_marked l.marks l.at ≡ true;
}

abbrev pub decreases-loop-met : goal.decreases-loop-met
decreases-loop-met l = missing l.met.items
