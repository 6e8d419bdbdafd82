use Rattle.std.proofs.Common.{IsTrue, ℕ, List}
use Rattle.gb_core.specs.Place.{is_under}
use Rattle.gb_disk.specs.Disk.{AllUnder}
use Rattle.gb_disk.proofs.entries.places_in.Given as goal

abbrev pub invariant-loop-name : goal.invariant-loop-name
invariant-loop-name l = (root : List ℕ) → IsTrue (is_under l.folder root) → AllUnder root l.places.items
