-- Lists of steps.
use Rattle.std.specs.Prelude.{◌≡◌, ◌++◌, List, [], ◌∷◌, Option}
use Rattle.std.specs.Option.{option_copied}
use Rattle.std.specs.Borrow.{Bor}
use Rattle.std.proofs.Common.{refl, ap}
use Rattle.gb_folder.specs.Files.{Place, Bytes}
use Rattle.gb_run.specs.ChangeTexts.{shown_steps}

pub shown-append : (xs ys : List (Place × Option (Bor Bytes))) → shown_steps (xs ++ ys) ≡ shown_steps xs ++ shown_steps ys
shown-append [] ys = refl
shown-append (x ∷ xs) ys = ap (λ ss. (x.0, option_copied x.1) ∷ ss) (shown-append xs ys)
