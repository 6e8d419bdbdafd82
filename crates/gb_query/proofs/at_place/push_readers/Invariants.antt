use Rattle.std.proofs.Common.{◌≡◌, ◌++◌, take}
use Rattle.std.specs.List.{flat_map}
use Rattle.gb_query.specs.Search.{reader_in}
use Rattle.gb_query.proofs.at_place.push_readers.Given as goal

abbrev pub invariant-loop-property : goal.invariant-loop-property
invariant-loop-property l = l.found.items ≡ l.fn.found.items ++ flat_map (reader_in l.path l.place) (take l.property-index l.files)
