use Rattle.std.proofs.Common.{◌≡◌, ◌++◌, map, take}
use Rattle.gb_tree.proofs.starts.add_starts.Given as goal

abbrev pub invariant-loop-start : goal.invariant-loop-start
invariant-loop-start l = l.starts.items ≡ l.initial.starts.items ++ map (λ start. (l.root, start)) (take l.start-index l.here)
