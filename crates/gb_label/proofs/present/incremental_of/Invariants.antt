use Rattle.std.proofs.Common.{◌≡◌, take}
use Rattle.gb_label.specs.Deciding.{incremental_names}
use Rattle.gb_label.proofs.present.incremental_of.Given as goal

abbrev pub invariant-loop-property : goal.invariant-loop-property
invariant-loop-property l = l.names.items ≡ incremental_names (take l.property-index l.properties)
