use Rattle.std.proofs.Common.{◌≡◌, ◌++◌, codes, string_bytes, take}
use Rattle.std.specs.List.{flat_map}
use Rattle.gb_picture.specs.Dot.{dot_edge}
use Rattle.gb_picture.proofs.dot.push_after.Given as goal

abbrev pub invariant-loop-one : goal.invariant-loop-one
invariant-loop-one l = string_bytes l.out ≡ string_bytes l.fn.out ++ flat_map (λ one. dot_edge l.from one (codes " [style=dotted];")) (take l.one-index l.to)
