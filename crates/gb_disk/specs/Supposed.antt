-- What may be supposed of a folder on a disk, for proofs alone: it need not be what the disk holds.
use Rattle.std.specs.Prelude.{List, MatchOption, Option, ⊤}
use Rattle.std.specs.List.{Contains}
use Rattle.gb_folder.specs.Files.{Bytes, Contents, Place, Tearing}

-- Contents before the first call and after each. And what stopped writes and removals may have left: of
-- each the place, what was there, what was to be there, and what is left; without a list, anything.
pub record Supposed : Type 0 where
  pub states : List Contents
  pub remains : Option (List (Place × Option Bytes × Option Bytes × Option Bytes))

abbrev pub leaves_of : Supposed → Tearing
leaves_of supposed place old next left =
    MatchOption supposed.remains ⊤ (λ remains. Contains remains (place, old, next, left))
