use Rattle.std.proofs.Common.{◌≡◌, ◌≤◌, ◌++◌, ◌+◌, ◌-◌, IsTrue, drop, length}
use Rattle.std.specs.FinMap.Entries.{is_sorted}
use Rattle.gb_action.specs.Changes.{changes_between}
use Rattle.gb_core.specs.Lists.{byte_order}
use Rattle.gb_tree.proofs.changes.compare.Given as goal

abbrev pub invariant-loop-at : goal.invariant-loop-at
invariant-loop-at l = record {
  at : l.at ≤ length l.before;
  to : l.to ≤ length l.after;
  before : IsTrue (is_sorted byte_order (drop l.at l.before));
  after : IsTrue (is_sorted byte_order (drop l.to l.after));
  reported : l.changes ++ changes_between (drop l.at l.before) (drop l.to l.after) ≡ changes_between l.before l.after;
}

abbrev pub decreases-loop-at : goal.decreases-loop-at
decreases-loop-at l = (length l.before - l.at) + (length l.after - l.to)
