-- The faults of the words of `defaultTasks`, which count where no word is requested.
use Rattle.std.specs.Prelude.{ℕ, ◌≡◌, ◌≢◌, Bool, List, [], ◌∷◌, MatchOption, bytes_eq, find, map}
use Rattle.std.specs.List.{flat_map}
use Rattle.gb_folder.specs.Files.{Files}
use Rattle.gb_plan.specs.Graph.{Registry}
use Rattle.gb_plan.specs.Refusal.{word_faults}
use Rattle.gb_registry.specs.Projects.{Path, root_path}
use Rattle.gb_report.specs.declared.fault.Fault.{Fault}
use Rattle.gb_script.specs.declared.script.Statement.{Statement}
use Rattle.gb_script.specs.declared.script.Statement.TheVariants as statements
use Rattle.gb_check.specs.Marks.{Lines, first_lines, other_lines}
use Rattle.gb_check.specs.Sites.{AreLinesAt, script_of_project}
use Rattle.gb_check.specs.declared.findings.Finding.{Finding}
use Rattle.gb_check.specs.declared.findings.Problem.TheVariants as problems
use Rattle.gb_check.specs.declared.findings.Spot.{Spot}
use Rattle.gb_check.specs.declared.findings.Spot.TheVariants as spots

-- ---- Where they are

-- the line of the statement if it is a `defaultTasks`, else the line known before
abbrev pub line_after : ℕ → ℕ → Statement → ℕ
line_after before line (statements.DefaultTasks words) = line
line_after before line other = before

-- the line of the last `defaultTasks` of a script; this line if it has none
abbrev pub defaults_line : ℕ → List Statement → List Lines → ℕ
defaults_line line [] lines = line
defaults_line line (statement ∷ statements) lines =
    defaults_line (line_after line (first_lines lines).0 statement) statements (other_lines lines)

abbrev pub is_root : Path × List Statement → Bool
is_root script = bytes_eq script.0 root_path

-- The words are in the last `defaultTasks` of the root's script (in line 1 if there is none; nowhere without
-- that script). If the contents of the folder are known, its line is that of the file.
abbrev pub IsDefaultsSpot : Type 0 → Files → List (Path × List Statement) → Spot → Type 0
IsDefaultsSpot known files scripts spot =
    MatchOption (find is_root scripts) (spot ≡ spots.Unknown) (λ script.
    (lines : List Lines) × (known → AreLinesAt files (script_of_project script.0) lines)
    × (spot ≡ spots.Line (script_of_project script.0) (defaults_line 1 script.1 lines)))

-- ---- What they are

-- the faults of the words of `defaultTasks`
abbrev pub default_faults : Registry → List Fault
default_faults registry = flat_map (word_faults registry) registry.default_tasks

abbrev pub fault_at : Spot → Fault → Finding
fault_at spot fault = record { spot = spot; cause = problems.Fault fault }

-- these faults, each at the `defaultTasks` that counts
abbrev pub AreAtDefaults : Type 0 → Files → List (Path × List Statement) → List Fault → List Finding → Type 0
AreAtDefaults known files scripts faults found =
    (spot : Spot) × (found ≢ [] → IsDefaultsSpot known files scripts spot)
    × (found ≡ map (fault_at spot) faults)

-- the faults of the words of `defaultTasks` are
abbrev pub AreDefaultsFound : Type 0 → Files → List (Path × List Statement) → Registry → List Finding → Type 0
AreDefaultsFound known files scripts registry found =
    AreAtDefaults known files scripts (default_faults registry) found
