use Rattle.std.proofs.Common.{◌≡◌, ◌++◌, map, take}
use Rattle.std.specs.List.{flat_map}
use Rattle.gb_check.specs.Warnings.{rooted}
use Rattle.gb_check.proofs.all_places.push_properties.Given as goal

abbrev pub invariant-loop-property : goal.invariant-loop-property
invariant-loop-property l = l.roots.items ≡ l.fn.roots.items ++ flat_map (λ property. map (rooted l.path) property.roots) (take l.property-index l.files)
