use Rattle.std.proofs.Common.{◌≡◌, ◌-◌, ℕ, List, true, length, vec_len}
use Rattle.std.specs.BTreeSet.{contains}
use Rattle.gb_core.specs.Lists.{byte_order}
use Rattle.gb_plan.specs.Task.{has_path}
use Rattle.gb_plan.specs.Graph.{no_repeats, paths_of}
use Rattle.gb_graph.specs.Queue.{HasCome}
use Rattle.gb_graph.proofs.queue.declare_all.Given as goal

abbrev pub invariant-loop-at : goal.invariant-loop-at
invariant-loop-at g l = record {
  kept : g.T.Tasks.registry l.tasks ≡ g.T.Tasks.registry l.initial.tasks;
  known : (path : List ℕ) → contains byte_order l.known path ≡ has_path l.queue.items path;
  once : no_repeats l.queue.items ≡ true;
  registered : (path : List ℕ) → has_path l.queue.items path ≡ true → has_path (paths_of (g.T.Tasks.registry l.initial.tasks)) path ≡ true;
  is_at : vec_len l.found ≡ l.at;
  come : HasCome (g.T.Tasks.registry l.initial.tasks) l.initial.queue.items (contains byte_order l.excluded) l.queue.items l.found.items;
}

abbrev pub decreases-loop-at : goal.decreases-loop-at
decreases-loop-at g l = length (paths_of (g.T.Tasks.registry l.tasks)) - l.at
