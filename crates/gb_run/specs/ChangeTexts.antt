-- Steps by the texts of their places, with borrowed bytes.
use Rattle.std.specs.Prelude.{◌≡◌, ◌≤◌, false, IsTrue, List, length, map, Option, string_bytes}
use Rattle.std.specs.List.{list_any}
use Rattle.std.specs.Option.{option_copied}
use Rattle.std.specs.declared.string.String.{String}
use Rattle.std.specs.Borrow.{Bor}
use Rattle.std.specs.BTreeMap.{BTreeMap}
use Rattle.std.specs.Global.{Global}
use Rattle.gb_core.specs.Place.{is_beneath, is_place}
use Rattle.gb_folder.specs.Files.{Bytes, Place}
use Rattle.gb_folder.specs.Limits.{max_file}
use Rattle.gb_run.specs.Steps.{Step}

abbrev pub ByText : Type 0
ByText = BTreeMap (String Global) (Option (Bor Bytes))

-- the steps by place
abbrev pub steps_in : ByText → List Step
steps_in steps = map (λ e. (string_bytes e.0, option_copied e.1)) steps.entries

-- a list of steps
abbrev pub shown_steps : List (Place × Option (Bor Bytes)) → List Step
shown_steps steps = map (λ step. (step.0, option_copied step.1)) steps

-- a file at a place, not too large, with no step at an ancestor folder of it
pub record Fits (steps : ByText) (file : Place × Bytes) : Type 0 where
  pub placed : IsTrue (is_place file.0)
  pub clear : list_any (λ step. is_beneath file.0 (string_bytes step.0)) steps.entries ≡ false
  pub small : length file.1 ≤ max_file
