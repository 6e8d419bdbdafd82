use Rattle.std.proofs.Common.{◌≡◌, ℕ, List}
use Rattle.std.specs.BTreeSet.{contains}
use Rattle.gb_core.specs.Lists.{byte_order}
use Rattle.gb_plan.specs.Task.{has_path}
use Rattle.gb_graph.specs.Queue.{added}
use Rattle.gb_graph.proofs.queue.enqueue.Given as goal

abbrev pub invariant-loop-path : goal.invariant-loop-path
invariant-loop-path l = record {
  known : (path : List ℕ) → contains byte_order l.known path ≡ has_path l.queue.items path;
  queue : added (contains byte_order l.excluded) l.queue.items l.path-iterator ≡ added (contains byte_order l.excluded) l.initial.queue.items l.paths;
}
