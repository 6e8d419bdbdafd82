-- The statement at which the first fault of scripts arises.
use Rattle.std.specs.Prelude.{ℕ, ◌≡◌, ◌⊎◌, ◌+◌, List, [], ◌∷◌, ◌++◌, length, Option, Some, None}
use Rattle.std.specs.List.{flat_map}
use Rattle.gb_report.specs.declared.fault.Fault.{Fault}
use Rattle.gb_script.specs.declared.script.Statement.{Statement}
use Rattle.gb_registry.specs.declared.first_fault.FaultAt.{FaultAt}
use Rattle.gb_registry.specs.declared.so_far.SoFar.{SoFar}
use Rattle.gb_registry.specs.Configure.{each_after, missing_tasks, statement_faults, statement_missing}
use Rattle.gb_registry.specs.Faults.{first_of}
use Rattle.gb_registry.specs.Projects.{Path}
use Rattle.gb_registry.specs.References.{Names}
use Rattle.gb_registry.specs.Said.{Said, said_by}
use Rattle.gb_registry.specs.SoFar.{begun, script_after, so_far_after, faults_so_far}
use Rattle.gb_registry.specs.Tables.{Tables}

-- ---- Which statement it is

module _ {M F Z S A : Type 0} (tables : Tables M F Z S A) (names : Names)
    (scripts : List (Path × List Statement)) where
  -- The statement after these is the first that has a fault, and this is its first one: a fault of its own;
  -- or no statement has one, and it is the first that names a missing task.
  abbrev pub HasFirst : List Said → Said → Fault → Type 0
  HasFirst before statement fault =
      ((each_after (statement_faults tables) [] before ≡ [])
      × (first_of (statement_faults tables before statement) ≡ Some fault))
      ⊎ ((each_after (statement_faults tables) [] (flat_map said_by scripts) ≡ [])
      × (flat_map (missing_tasks names) before ≡ [])
      × (first_of (missing_tasks names statement) ≡ Some fault))

  -- The statement with the number in the script of the project is the first that has a fault, and it is
  -- this one. Statements count from 0.
  pub record IsFirstAt (at : FaultAt) : Type 0 where
    pub before : List (Path × List Statement)
    pub earlier : List Statement
    pub statement : Statement
    pub later : List Statement
    pub after : List (Path × List Statement)
    pub all : scripts ≡ before ++ (at.project, earlier ++ statement ∷ later) ∷ after
    pub number : at.statement ≡ length earlier
    pub first : HasFirst (flat_map said_by before ++ said_by (at.project, earlier))
        (record { project = at.project; statement = statement }) at.fault

-- ---- How it is found

-- this fault at this statement, or else the other
abbrev pub at_or : Path → ℕ → Option Fault → Option FaultAt → Option FaultAt
at_or project number (Some fault) other =
    Some (record { project = project; statement = number; fault = fault })
at_or project number None other = other

-- the first of two
abbrev pub or_later : Option FaultAt → Option FaultAt → Option FaultAt
or_later (Some at) later = Some at
or_later None later = later

module _ {M F Z S A : Type 0} (tables : Tables M F Z S A) where
  -- the first fault of the statements of a script, which count from this number
  abbrev pub wrong_in_script : Path → SoFar → ℕ → List Statement → Option FaultAt
  wrong_in_script project so_far number [] = None
  wrong_in_script project so_far number (statement ∷ statements) =
      at_or project number (first_of (faults_so_far tables project so_far statement))
      (wrong_in_script project (so_far_after project so_far statement) (number + 1) statements)

  -- that of scripts
  abbrev pub wrong_in : SoFar → List (Path × List Statement) → Option FaultAt
  wrong_in so_far [] = None
  wrong_in so_far (script ∷ scripts) =
      or_later (wrong_in_script script.0 (begun so_far) 0 script.1)
      (wrong_in (script_after script.0 (begun so_far) script.1) scripts)

-- the first missing task that the statements of a script name
abbrev pub missing_in_script : Names → Path → ℕ → List Statement → Option FaultAt
missing_in_script names project number [] = None
missing_in_script names project number (statement ∷ statements) =
    at_or project number (first_of (statement_missing names project statement))
    (missing_in_script names project (number + 1) statements)

-- that of scripts
abbrev pub missing_in : Names → List (Path × List Statement) → Option FaultAt
missing_in names [] = None
missing_in names (script ∷ scripts) =
    or_later (missing_in_script names script.0 0 script.1) (missing_in names scripts)
