-- The findings for registered tasks, and what follows if there are none.
use Rattle.std.specs.Prelude.{ℕ, ◌≡◌, ◌≢◌, ◌⊎◌, List, [], ◌∷◌, ◌++◌, Option, Some, None, Result, Ok, Err}
use Rattle.std.specs.Prelude.{Contains}
use Rattle.std.specs.Prelude.{bytes_eq, codes, decimal, find, map}
use Rattle.std.specs.List.{flat_map}
use Rattle.std.specs.Option.{option_map_or}
use Rattle.gb_folder.specs.Files.{Place}
use Rattle.gb_graph.specs.Answer.{IsPlanOf, IsRefusalOf}
use Rattle.gb_plan.specs.Graph.{Plan, Registry, declaration_at, paths_of}
use Rattle.gb_plan.specs.Refusal.{IsScheduleFault, word_faults}
use Rattle.gb_plan.specs.Task.{Path, Text}
use Rattle.gb_plan.specs.declared.task.TaskDeclaration.{TaskDeclaration}
use Rattle.gb_report.specs.Fault.{fault_text}
use Rattle.gb_report.specs.Report.{line}
use Rattle.gb_report.specs.declared.fault.Fault.{Fault}
use Rattle.gb_report.specs.declared.fault.Fault.TheVariants as faults
use Rattle.gb_check.specs.Findings.{spot_at, unread_spot}
use Rattle.gb_check.specs.Marks.{line_for}
use Rattle.gb_check.specs.declared.findings.Problem.{Problem}
use Rattle.gb_check.specs.declared.findings.Problem.TheVariants as problems
use Rattle.gb_check.specs.declared.findings.Finding.{Finding}
use Rattle.gb_check.specs.declared.findings.Spot.{Spot}
use Rattle.gb_check.specs.declared.findings.Spot.TheVariants as spots
use Rattle.gb_check.specs.declared.clause_lines.ClauseMark.{ClauseMark}
use Rattle.gb_check.specs.declared.sites.Site.{Site}

-- ---- What is printed

-- a line of a script, in the form that editors read
abbrev pub line_text : Place → ℕ → List ℕ
line_text script line = script ++ codes ":" ++ decimal line ++ codes ": "

abbrev pub spot_text : Spot → List ℕ
spot_text (spots.Line script line) = line_text script line
spot_text (spots.Value name) = codes "-P" ++ name ++ codes ": "
spot_text spots.Unknown = []

abbrev pub kind_text : Problem → List ℕ
kind_text (problems.Fault fault) = []
kind_text other = codes "warning: "

-- a fault with its number, or the words of a warning
abbrev pub cause_text : Problem → List ℕ
cause_text (problems.Fault fault) = fault_text fault
cause_text (problems.Shared first second) = first ++ codes " and " ++ second ++ codes " read one folder"
cause_text (problems.Unneeded root maker) =
    root ++ codes " overlaps an output of " ++ maker ++ codes ", which is not needed directly"
cause_text (problems.Stale maker reader) =
    codes "where " ++ maker ++ codes " is skipped, " ++ reader ++ codes " reads its old output"
cause_text (problems.Bare root) = codes "no file is at " ++ root
cause_text problems.Unread = codes "nothing reads it"
cause_text (problems.Unregistered path) =
    codes "a record of " ++ path ++ codes " is kept, which no script registers"

abbrev pub finding_text : Finding → List ℕ
finding_text finding = line (spot_text finding.spot ++ kind_text finding.cause ++ cause_text finding.cause)

abbrev pub findings_text : List Finding → List ℕ
findings_text found = flat_map finding_text found

-- ---- Scripts or arguments that cannot be read

abbrev pub unread_where : Spot → List ℕ
unread_where spots.Unknown = codes "REFUSED "
unread_where (spots.Line script line) = line_text script line
unread_where (spots.Value name) = codes "-P" ++ name ++ codes ": "

abbrev pub unread_text : Fault → List ℕ
unread_text fault = line (unread_where (unread_spot fault) ++ fault_text fault)

-- ---- The findings

-- the line of the clause at fault, or of the one that the fault names, or else of the registration
abbrev pub line_spot : List ClauseMark → Path → Fault → Site → Spot
line_spot marks path fault site = spots.Line site.script (line_for marks path fault site.line)

-- the same for the task at a path
abbrev pub fault_spot : List Site → List ClauseMark → Path → Fault → Spot
fault_spot sites marks path fault =
    option_map_or (line_spot marks path fault) (find (λ site. bytes_eq site.path path) sites) spots.Unknown

-- a fault of the task at a path
abbrev pub found_of : List Site → List ClauseMark → Path → Fault → Finding
found_of sites marks path fault =
    record { spot = fault_spot sites marks path fault; cause = problems.Fault fault }

abbrev pub faults_of : Option (Result TaskDeclaration Fault) → List Fault
faults_of (Some (Err fault)) = fault ∷ []
faults_of (Some (Ok task)) = []
faults_of None = []

-- the fault of the task at a path, if it has one
abbrev pub task_found : List Site → List ClauseMark → Registry → Path → List Finding
task_found sites marks registry path =
    map (found_of sites marks path) (faults_of (declaration_at registry path))

-- the fault of each task that has one, in the order of registration
abbrev pub tasks_found : List Site → List ClauseMark → Registry → List Finding
tasks_found sites marks registry = flat_map (task_found sites marks registry) (paths_of registry)

abbrev pub first_path : List Path → Option Path
first_path [] = None
first_path (path ∷ paths) = Some path

-- the task whose line is named for the fault of a plan: the first that the fault names
abbrev pub named_by : Fault → Option Path
named_by (faults.Cycle paths) = first_path paths
named_by (faults.OverlappingOutputs task other place) = Some task
named_by (faults.UndeclaredDependency task other place) = Some task
named_by (faults.OwnOutputAsInput task place) = Some task
named_by other = None

-- the fault of a plan
abbrev pub plan_found : List Site → Fault → Finding
plan_found sites fault =
    let spot = option_map_or (spot_at sites) (named_by fault) spots.Unknown in
    record { spot = spot; cause = problems.Fault fault }

-- the findings for the plan of these words: none, or why there is no plan
abbrev pub IsFoundInPlan : List Site → Registry → List Text → List Finding → Type 0
IsFoundInPlan sites registry words found =
    ((plan : Plan) × IsPlanOf registry words [] plan × (found ≡ []))
    ⊎ ((fault : Fault) × IsRefusalOf registry words [] fault × (fault ≢ faults.OutOfMemory)
    × (found ≡ plan_found sites fault ∷ []))

-- the findings for the plan of all tasks, if there are any tasks
abbrev pub IsFoundInAll : List Site → Registry → List Path → List Finding → Type 0
IsFoundInAll sites registry paths found =
    ((paths ≡ []) × (found ≡ [])) ⊎ ((paths ≢ []) × IsFoundInPlan sites registry paths found)

-- The faults of all tasks; or if no task has one, the findings for the plan of all.
pub data IsFound (sites : List Site) (marks : List ClauseMark) (registry : Registry) (found : List Finding)
    : Type 0 where
  in_tasks : found ≢ [] → found ≡ tasks_found sites marks registry → IsFound sites marks registry found
  in_plan : tasks_found sites marks registry ≡ [] → IsFoundInAll sites registry (paths_of registry) found
      → IsFound sites marks registry found

-- ---- If nothing is found

-- the fault is that of a word which is requested or excluded; or 64, as none is requested or a default
abbrev pub IsOfWords : Registry → List Text → List Text → Fault → Type 0
IsOfWords registry requested excluded fault =
    ((word : Text) × Contains (requested ++ excluded) word × Contains (word_faults registry word) fault)
    ⊎ ((requested ≡ []) × (registry.default_tasks ≡ []) × (fault ≡ faults.NoTasks))

-- Whatever is requested and excluded, no task and no default word causes a refusal: the only causes are lack
-- of memory, these words or their lack (64), and a plan (60 to 63).
abbrev pub IsSilent : Registry → Type 0
IsSilent registry =
    (requested excluded : List Text) (fault : Fault) → IsRefusalOf registry requested excluded fault
    → (fault ≡ faults.OutOfMemory) ⊎ (IsOfWords registry requested excluded fault
    ⊎ ((plan : Plan) × IsScheduleFault plan fault))
