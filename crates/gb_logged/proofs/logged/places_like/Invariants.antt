use Rattle.std.proofs.Common.{◌≡◌, take}
use Rattle.gb_logged.proofs.logged.places_like.Given as goal

abbrev pub invariant-loop-place : goal.invariant-loop-place
invariant-loop-place l = l.copied ≡ take l.place-index l.places
