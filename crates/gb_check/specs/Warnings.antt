-- The warnings.
use Rattle.std.specs.Prelude.{◌≡◌, ◌&&◌, Bool, not, List, [], ◌∷◌, ◌++◌, map, Option, Some}
use Rattle.std.specs.Prelude.{None, Result, Ok, Err, bytes_eq, false, if◌then◌else◌, true}
use Rattle.std.specs.List.{flat_map, list_any}
use Rattle.gb_core.specs.Path.{task_in}
use Rattle.gb_core.specs.Place.{overlaps}
use Rattle.gb_folder.specs.Files.{Contents, Place, is_empty, is_special_under, places_under}
use Rattle.gb_plan.specs.Graph.{Registry, declaration_at, paths_of}
use Rattle.gb_plan.specs.Task.{Path, has_path, output_places}
use Rattle.gb_plan.specs.declared.task.FileProperty.{FileProperty}
use Rattle.gb_plan.specs.declared.task.TaskDeclaration.{TaskDeclaration}
use Rattle.gb_report.specs.declared.fault.Fault.{Fault}
use Rattle.gb_script.specs.declared.script.Clause.{Clause}
use Rattle.gb_script.specs.declared.script.Clause.TheVariants as clauses
use Rattle.gb_script.specs.declared.script.Statement.{Statement}
use Rattle.gb_script.specs.declared.script.Statement.TheVariants as statements
use Rattle.gb_check.specs.Findings.{warning}
use Rattle.gb_check.specs.declared.findings.Problem.TheVariants as problems
use Rattle.gb_check.specs.declared.findings.Finding.{Finding}
use Rattle.gb_check.specs.declared.all_places.Rooted.{Rooted}
use Rattle.gb_check.specs.declared.sites.Site.{Site}

-- the declaration of a task; nothing if it has a fault
abbrev pub declared_of : Option (Result TaskDeclaration Fault) → List TaskDeclaration
declared_of (Some (Ok task)) = task ∷ []
declared_of (Some (Err fault)) = []
declared_of None = []

-- the tasks without a fault, in the order of registration
abbrev pub declared_in : Registry → List TaskDeclaration
declared_in registry = flat_map (λ path. declared_of (declaration_at registry path)) (paths_of registry)

-- ---- Two file properties over one folder

-- the two have a root in common
abbrev pub share_root : FileProperty → FileProperty → Bool
share_root first second = list_any (λ root. has_path second.roots root) first.roots

abbrev pub pair_of : List Site → Path → FileProperty → FileProperty → List Finding
pair_of sites path first second =
    if share_root first second then warning sites path (problems.Shared first.name second.name) ∷ [] else []

-- each two of these that have a root in common
abbrev pub pairs_in : List Site → Path → List FileProperty → List Finding
pairs_in sites path [] = []
pairs_in sites path (first ∷ others) =
    flat_map (pair_of sites path first) others ++ pairs_in sites path others

abbrev pub shared_in : List Site → List TaskDeclaration → List Finding
shared_in sites tasks = flat_map (λ task. pairs_in sites task.path task.files) tasks

-- ---- Tasks that may be skipped

-- the clause may skip its task
abbrev pub may_skip : Clause → Bool
may_skip (clauses.OnlyIf condition) = true
may_skip (clauses.Enabled value) = true
may_skip other = false

-- the task to which a statement gives such a clause, if it gives one
abbrev pub guarded_by : Path → Statement → List Path
guarded_by project (statements.Register r) =
    if list_any may_skip r.block then task_in project r.name ∷ [] else []
guarded_by project (statements.Named c) =
    if list_any may_skip c.block then task_in project c.name ∷ [] else []
guarded_by project other = []

-- the tasks to which these scripts give such clauses
abbrev pub guarded_in : List (Path × List Statement) → List Path
guarded_in scripts = flat_map (λ script. flat_map (guarded_by script.0) script.1) scripts

-- ---- Outputs that other tasks read

-- the task makes something that is at, under or above the root
abbrev pub makes_at : Place → TaskDeclaration → Bool
makes_at root task = list_any (λ output. overlaps root output.place) task.outputs

-- a root of the reader is at an output of the other task
abbrev pub reads_from : TaskDeclaration → TaskDeclaration → Bool
reads_from reader maker =
    list_any (λ property. list_any (λ root. makes_at root maker) property.roots) reader.files

-- a root at an output of a task that the reader does not need
abbrev pub unneeded_at : List Site → Path → TaskDeclaration → Place → List Finding
unneeded_at sites reader maker root =
    if makes_at root maker then warning sites reader (problems.Unneeded root maker.path) ∷ [] else []

-- all such roots of a property
abbrev pub unneeded_in : List Site → Path → TaskDeclaration → FileProperty → List Finding
unneeded_in sites reader maker property = flat_map (unneeded_at sites reader maker) property.roots

-- all such roots of a reader
abbrev pub unneeded_from : List Site → TaskDeclaration → TaskDeclaration → List Finding
unneeded_from sites reader maker =
    if has_path reader.needs maker.path then []
    else flat_map (unneeded_in sites reader.path maker) reader.files

-- an output that stays if its task, which may be skipped, is skipped
abbrev pub stale_of : List Site → List Path → Path → Path → List Finding
stale_of sites guarded reader maker =
    if has_path guarded maker then warning sites maker (problems.Stale maker reader) ∷ [] else []

-- for a reader and another task, if it reads an output of that one
abbrev pub between : List Site → List Path → TaskDeclaration → TaskDeclaration → List Finding
between sites guarded reader maker =
    if reads_from reader maker && not (bytes_eq reader.path maker.path)
    then unneeded_from sites reader maker ++ stale_of sites guarded reader.path maker.path
    else []

-- for each two tasks
abbrev pub between_all : List Site → List Path → List TaskDeclaration → List Finding
between_all sites guarded tasks = flat_map (λ reader. flat_map (between sites guarded reader) tasks) tasks

-- ---- Roots without files

-- the outputs of all tasks
abbrev pub all_outputs : List TaskDeclaration → List Place
all_outputs tasks = flat_map output_places tasks

-- a root of the task at a path
abbrev pub rooted : Path → Place → Rooted
rooted path root = record { path = path; root = root }

-- the roots of all tasks
abbrev pub all_roots : List TaskDeclaration → List Rooted
all_roots tasks =
    flat_map (λ task. flat_map (λ property. map (rooted task.path) property.roots) task.files) tasks

-- Nothing is at the root or under it, and no task makes anything there.
abbrev pub is_bare : Contents → List Place → Place → Bool
is_bare contents outputs root =
    not (list_any (overlaps root) outputs) && is_empty (places_under contents.files root)
    && not (is_special_under contents root)

abbrev pub bare_root : List Site → Contents → List Place → Rooted → List Finding
bare_root sites contents outputs rooted =
    if is_bare contents outputs rooted.root
    then warning sites rooted.path (problems.Bare rooted.root) ∷ [] else []

-- the roots that have no files
abbrev pub bare_roots : List Site → Contents → List TaskDeclaration → List Finding
bare_roots sites contents tasks =
    flat_map (bare_root sites contents (all_outputs tasks)) (all_roots tasks)

-- ---- All of them

-- the warnings that do not depend on files: for file properties, and for outputs that other tasks read
abbrev pub declared_warnings : List Site → List (Path × List Statement) → List TaskDeclaration → List Finding
declared_warnings sites scripts tasks = shared_in sites tasks ++ between_all sites (guarded_in scripts) tasks

-- These, and then those for roots: if the contents of the folder are known, for the roots that have no files
-- in it.
pub record AreWarnings (known : Type 0) (sites : List Site) (scripts : List (Path × List Statement))
    (contents : Contents) (registry : Registry) (found : List Finding) : Type 0 where
  pub bare : List Finding
  pub are_bare : known → bare ≡ bare_roots sites contents (declared_in registry)
  pub found_is : found ≡ declared_warnings sites scripts (declared_in registry) ++ bare
