use Rattle.std.proofs.Common.{◌≡◌, ◌<◌, ◌++◌, ℕ, map, length, get_or}
use Rattle.std.specs.BTreeSet.{contains}
use Rattle.std.specs.List.{AllByRecursion}
use Rattle.std.specs.Vec.Iter.{into_iter_items}
use Rattle.gb_core.specs.Lists.{byte_order}
use Rattle.gb_plan.specs.declared.plan.Planned.{Planned}
use Rattle.gb_graph.proofs.worded.worded.Given as goal

abbrev pub invariant-loop-task : goal.invariant-loop-task
invariant-loop-task l = record {
  same : map (λ (p : Planned). p.task) l.planned.items ++ into_iter_items l.task-iterator ≡ l.fn.tasks.items;
  worded : (k : ℕ) (d : Planned) → k < length l.planned.items → (get_or l.planned.items k d).word ≡ get_or l.words k 0;
  selection : AllByRecursion (λ (p : Planned). p.is_selected ≡ contains byte_order l.selected p.task.path) l.planned.items;
}
