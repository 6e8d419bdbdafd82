use Rattle.std.proofs.Common.{◌≡◌, map, take}
use Rattle.gb_tree.specs.Property.{start_of}
use Rattle.gb_tree.proofs.starts.each_start.Given as goal

abbrev pub invariant-loop-pattern : goal.invariant-loop-pattern
invariant-loop-pattern l = l.starts.items ≡ map (start_of l.root) (take l.pattern-index l.include)
