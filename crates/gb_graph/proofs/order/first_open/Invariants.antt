use Rattle.std.proofs.Common.{◌≡◌, ◌<◌, ℕ, true, get_or}
use Rattle.gb_graph.specs.Settled.{is_marked}
use Rattle.gb_graph.proofs.order.first_open.Given as goal

abbrev pub invariant-loop-before : goal.invariant-loop-before
invariant-loop-before l = (k : ℕ) → k < l.before-index → is_marked l.exists (get_or l.row k 0) ≡ true
