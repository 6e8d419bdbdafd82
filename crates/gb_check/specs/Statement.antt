-- Where a statement of a script is.
use Rattle.std.specs.Prelude.{ℕ, ◌≡◌, List, slice_get, unwrap_or}
use Rattle.std.specs.Option.{option_map}
use Rattle.gb_folder.specs.Files.{Files}
use Rattle.gb_registry.specs.Projects.{Path}
use Rattle.gb_check.specs.Marks.{Lines}
use Rattle.gb_check.specs.Sites.{AreLinesAt, script_of_project}
use Rattle.gb_check.specs.declared.findings.Spot.{Spot}
use Rattle.gb_check.specs.declared.findings.Spot.TheVariants as spots

-- the line of the statement with a number; the first line if there is none
abbrev pub line_of_statement : List Lines → ℕ → ℕ
line_of_statement lines number = unwrap_or (option_map (λ (one : Lines). one.0) (slice_get lines number)) 1

-- Where the statement with this number in the script of the project is. If the contents of the folder are
-- known, its line is that of the file.
abbrev pub IsStatementSpot : Type 0 → Files → Path → ℕ → Spot → Type 0
IsStatementSpot known files project number spot =
    (lines : List Lines) × (known → AreLinesAt files (script_of_project project) lines)
    × (spot ≡ spots.Line (script_of_project project) (line_of_statement lines number))
