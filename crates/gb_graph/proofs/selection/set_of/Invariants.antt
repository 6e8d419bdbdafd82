use Rattle.std.proofs.Common.{◌≡◌, ℕ, List, take}
use Rattle.std.specs.BTreeSet.{contains}
use Rattle.gb_core.specs.Lists.{byte_order}
use Rattle.gb_plan.specs.Task.{has_path}
use Rattle.gb_graph.specs.Words.{joined_paths}
use Rattle.gb_graph.proofs.selection.set_of.Given as goal

abbrev pub invariant-loop-paths : goal.invariant-loop-paths
invariant-loop-paths l = (path : List ℕ) → contains byte_order l.set path ≡ has_path (joined_paths (take l.paths-index l.lists)) path
