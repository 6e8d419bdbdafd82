-- What the removal of one of several places requests of a folder.
use Rattle.std.proofs.Common.{◌≡◌, ◌<◌, ℕ, List, length, get_or}
use Rattle.std.specs.Cmp.Lexicographic.{bytes_decides}
use Rattle.std.proofs.Common.{refl}
use Rattle.gb_folder.specs.Calls.{Requests, taken_at, takes_at}
use Rattle.gb_folder.specs.Files.{Place}
use Rattle.gb_folder.proofs.Asked.{requests_taken, take_at}
use Rattle.gb_folder.specs.Changes.{is_among, is_at}
use Rattle.gb_folder.proofs.Loops.{any_here}
use Rattle.gb_folder.specs.Calls.{Device}

-- the file at one of these places is removed
pub taken_among : {F : Type 0} {device : Device F} {old new : F}
    (places : List Place) (i : ℕ) (place : Place) → i < length places → place ≡ get_or places i place
    → Requests device (taken_at place) old new → Requests device (takes_at (is_among places)) old new
taken_among places i place within is takes =
    requests_taken place (take_at (is_among places) place (any_here (λ other. is_at other place) places i place within is ((bytes_decides place place).1 refl))) takes
