use Rattle.std.proofs.Common.{◌≡◌, take}
use Rattle.gb_disk.proofs.listings.copies.Given as goal

abbrev pub invariant-loop-place : goal.invariant-loop-place
invariant-loop-place l = l.made.items ≡ take l.place-index l.places
