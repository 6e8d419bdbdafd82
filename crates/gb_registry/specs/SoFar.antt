-- The state by which a statement is checked: the tasks before it, and the properties of its own script.
use Rattle.std.specs.Prelude.{ℕ, ◌+◌, List, [], ◌∷◌, ◌++◌, if◌then◌else◌, None, map, length, nat_le}
use Rattle.std.specs.List.{flat_map}
use Rattle.gb_core.specs.Path.{task_in}
use Rattle.gb_report.specs.declared.fault.Fault.{Fault}
use Rattle.gb_report.specs.declared.fault.Fault.TheVariants as faults
use Rattle.gb_report.specs.declared.fault.Limited.TheVariants as limited
use Rattle.gb_script.specs.Tree.{Tree}
use Rattle.gb_script.specs.declared.script.Assignment.{Assignment}
use Rattle.gb_script.specs.declared.script.Statement.{Statement}
use Rattle.gb_script.specs.declared.script.Statement.TheVariants as statements
use Rattle.gb_registry.specs.declared.checking.Scripted.{Scripted}
use Rattle.gb_registry.specs.declared.so_far.SoFar.{SoFar}
use Rattle.gb_registry.specs.Projects.{Path, is_among, with_path}
use Rattle.gb_registry.specs.Said.{Said, paths_of, said_by}
use Rattle.gb_registry.specs.Source.{Source}
use Rattle.gb_registry.specs.Tables.{Tables}
use Rattle.gb_registry.specs.Wrong.{property_faults, task_faults_in, tree_faults}

-- scripts with their projects
abbrev pub scripts_in : List Scripted → List (Path × List Statement)
scripts_in scripts = map (λ scripted. (scripted.project, scripted.script)) scripts

-- their statements
abbrev pub said_in : List Scripted → List Said
said_in scripts = flat_map said_by (scripts_in scripts)

-- the statements of scripts of these projects, with no values given
abbrev pub source_in : List Path → List Scripted → Source
source_in projects scripts =
    record {
      names = record { projects = projects; tasks = paths_of (said_in scripts) };
      said = said_in scripts;
      given = [];
    }

-- the next script does not know the properties of others
abbrev pub begun : SoFar → SoFar
begun so_far = record so_far { properties = []; finals = [] }

abbrev pub change_faults_so_far : SoFar → List ℕ → List Fault
change_faults_so_far so_far name =
    property_faults so_far.properties name ++ (if is_among so_far.finals name then faults.Final name ∷ []
    else [])

abbrev pub property_faults_so_far : SoFar → List ℕ → List Fault
property_faults_so_far so_far name =
    if is_among so_far.properties name then faults.DuplicateProperty name ∷ []
    else (if nat_le 1024 so_far.count then faults.TooMany limited.Properties ∷ [] else [])

abbrev pub task_faults_so_far : SoFar → Path → List Fault
task_faults_so_far so_far path =
    if is_among so_far.tasks path then faults.DuplicateTask path ∷ []
    else (if nat_le 4096 (length so_far.tasks) then faults.TooMany limited.Tasks ∷ [] else [])

abbrev pub named_faults_so_far : SoFar → Path → List ℕ → List Fault
named_faults_so_far so_far project name =
    if is_among so_far.tasks (task_in project name) then [] else faults.TaskNotFound name ∷ []

module _ {M F Z S A : Type 0} (tables : Tables M F Z S A) (project : Path) where
  abbrev pub value_faults_so_far : SoFar → Tree → List Fault
  value_faults_so_far so_far tree =
      tree_faults tables
      (record {
        project = project;
        properties = so_far.properties;
        task_faults = task_faults_in None
            project;
      })
      tree

  abbrev pub assignment_faults_so_far : SoFar → Assignment → List Fault
  assignment_faults_so_far so_far a = change_faults_so_far so_far a.name ++ value_faults_so_far so_far a.value

  -- the faults of a statement
  abbrev pub faults_so_far : SoFar → Statement → List Fault
  faults_so_far so_far (statements.DefaultTasks texts) = []
  faults_so_far so_far (statements.Property name) = property_faults_so_far so_far name
  faults_so_far so_far (statements.Set a) = assignment_faults_so_far so_far a
  faults_so_far so_far (statements.Convention a) = assignment_faults_so_far so_far a
  faults_so_far so_far (statements.Unset name) = change_faults_so_far so_far name
  faults_so_far so_far (statements.DisallowChanges name) = property_faults so_far.properties name
  faults_so_far so_far (statements.Register r) = task_faults_so_far so_far (task_in project r.name)
  faults_so_far so_far (statements.Named c) = named_faults_so_far so_far project c.name

-- the state after a statement
abbrev pub so_far_after : Path → SoFar → Statement → SoFar
so_far_after project so_far (statements.DefaultTasks texts) = so_far
so_far_after project so_far (statements.Property name) =
    record so_far { properties = with_path so_far.properties name; count = so_far.count + 1 }
so_far_after project so_far (statements.Set a) = so_far
so_far_after project so_far (statements.Convention a) = so_far
so_far_after project so_far (statements.Unset name) = so_far
so_far_after project so_far (statements.DisallowChanges name) =
    record so_far { finals = with_path so_far.finals name }
so_far_after project so_far (statements.Register r) =
    record so_far { tasks = so_far.tasks ++ task_in project r.name ∷ [] }
so_far_after project so_far (statements.Named c) = so_far

-- a script, statement by statement
abbrev pub script_after : Path → SoFar → List Statement → SoFar
script_after project so_far [] = so_far
script_after project so_far (statement ∷ script) =
    script_after project (so_far_after project so_far statement) script

module _ {M F Z S A : Type 0} (tables : Tables M F Z S A) where
  abbrev pub script_faults : Path → SoFar → List Statement → List Fault
  script_faults project so_far [] = []
  script_faults project so_far (statement ∷ script) =
      faults_so_far tables project so_far statement
      ++ script_faults project (so_far_after project so_far statement) script

  -- scripts, one after another
  abbrev pub scripts_faults : SoFar → List (Path × List Statement) → List Fault
  scripts_faults so_far [] = []
  scripts_faults so_far (script ∷ scripts) =
      script_faults script.0 (begun so_far) script.1
      ++ scripts_faults (script_after script.0 (begun so_far) script.1) scripts

abbrev pub scripts_after : SoFar → List (Path × List Statement) → SoFar
scripts_after so_far [] = so_far
scripts_after so_far (script ∷ scripts) = scripts_after (script_after script.0 (begun so_far) script.1)
    scripts
