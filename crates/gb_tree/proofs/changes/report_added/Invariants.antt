use Rattle.std.proofs.Common.{◌≡◌, ◌++◌, map, drop}
use Rattle.gb_action.specs.declared.change.Change.TheVariants.{Added}
use Rattle.gb_tree.proofs.changes.report_added.Given as goal

abbrev pub invariant-loop-path : goal.invariant-loop-path
invariant-loop-path l = l.changes ++ map (λ entry. Added entry.0) (drop l.path-index l.new) ≡ l.fn.changes ++ map (λ entry. Added entry.0) l.new
