use Rattle.std.proofs.Common.{◌≡◌, ◌++◌, take}
use Rattle.std.specs.List.{flat_map}
use Rattle.gb_check.specs.Warnings.{unneeded_in}
use Rattle.gb_check.proofs.between.push_properties.Given as goal

abbrev pub invariant-loop-property : goal.invariant-loop-property
invariant-loop-property l = l.found.items ≡ l.fn.found.items ++ flat_map (unneeded_in l.sites l.reader l.maker) (take l.property-index l.files)
