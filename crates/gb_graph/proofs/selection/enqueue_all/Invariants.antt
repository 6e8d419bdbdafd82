use Rattle.std.proofs.Common.{◌≡◌, ℕ, List, take}
use Rattle.std.specs.BTreeSet.{contains}
use Rattle.gb_core.specs.Lists.{byte_order}
use Rattle.gb_plan.specs.Task.{has_path}
use Rattle.gb_graph.specs.Queue.{added}
use Rattle.gb_graph.specs.Words.{joined_paths}
use Rattle.gb_graph.proofs.selection.enqueue_all.Given as goal

abbrev pub invariant-loop-paths : goal.invariant-loop-paths
invariant-loop-paths l = record {
  known : (path : List ℕ) → contains byte_order l.known path ≡ has_path l.queue.items path;
  queue : l.queue.items ≡ added (contains byte_order l.excluded) l.initial.queue.items (joined_paths (take l.paths-index l.lists));
}
