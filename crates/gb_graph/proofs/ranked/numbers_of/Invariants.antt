use Rattle.std.proofs.Common.{◌≡◌, ◌<◌, ◌↔◌, ℕ, List, [], Some, get_or}
use Rattle.gb_plan.specs.Graph.{order}
use Rattle.gb_graph.specs.Ranked.{number_at}
use Rattle.gb_graph.proofs.ranked.numbers_of.Given as goal

abbrev pub invariant-loop-number : goal.invariant-loop-number
invariant-loop-number l = (path : List ℕ) (number : ℕ) → (number_at l.numbers path ≡ Some number) ↔ ((number < l.number) × (get_or (order l.tasks) number [] ≡ path))
