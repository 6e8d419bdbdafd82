use Rattle.std.proofs.Common.{◌≡◌, ◌++◌, take}
use Rattle.std.specs.List.{flat_map}
use Rattle.gb_query.specs.Search.{maker_in}
use Rattle.gb_query.proofs.at_place.push_makers.Given as goal

abbrev pub invariant-loop-output : goal.invariant-loop-output
invariant-loop-output l = l.found.items ≡ l.fn.found.items ++ flat_map (maker_in l.path l.place) (take l.output-index l.outputs)
