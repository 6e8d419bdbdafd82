use Rattle.std.proofs.Common.{◌≡◌, drop}
use Rattle.std.specs.FinMap.Entries.{find}
use Rattle.gb_core.specs.Lists.{byte_order}
use Rattle.gb_action.proofs.snapshot.Snapshots.get.Given as goal

abbrev pub invariant-loop-snapshot : goal.invariant-loop-snapshot
invariant-loop-snapshot l = find byte_order l.name l.snapshot-items ≡ find byte_order l.name (drop l.snapshot-index l.snapshot-items)
