use Rattle.std.proofs.Common.{◌↔◌, ℕ, take, Contains}
use Rattle.gb_graph.specs.Order.{rows}
use Rattle.gb_graph.proofs.Nearby.{IsMetBy}
use Rattle.gb_graph.proofs.conflicting.conflicts_at.Given as goal

abbrev pub invariant-loop-output : goal.invariant-loop-output
invariant-loop-output l = (task : ℕ) → Contains l.tasks.items task
    ↔ IsMetBy l.search (rows l.chains) l.at (take l.output-index l.near) task
