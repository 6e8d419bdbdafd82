use Rattle.std.proofs.Common.{◌≡◌, false, take}
use Rattle.std.specs.List.{list_any}
use Rattle.gb_query.specs.Membership.{takes_in_from}
use Rattle.gb_query.proofs.membership.takes_in.Given as goal

abbrev pub invariant-loop-root : goal.invariant-loop-root
invariant-loop-root l = list_any (takes_in_from l.property l.place) (take l.root-index l.root-items) ≡ false
