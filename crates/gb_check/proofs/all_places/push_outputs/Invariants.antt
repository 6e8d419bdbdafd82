use Rattle.std.proofs.Common.{◌≡◌, ◌++◌, map, take}
use Rattle.gb_check.proofs.all_places.push_outputs.Given as goal

abbrev pub invariant-loop-output : goal.invariant-loop-output
invariant-loop-output l = l.places.items ≡ l.fn.places.items ++ map (λ output. output.place) (take l.output-index l.outputs)
