-- The statements of scripts, and what they register.
use Rattle.std.specs.Prelude.{ℕ, List, [], ◌++◌, map, filter, filter_map, zip, find, if◌then◌else◌, Option}
use Rattle.std.specs.Prelude.{Some, None, bytes_eq}
use Rattle.std.specs.List.{flat_map}
use Rattle.gb_script.specs.Tree.{Tree}
use Rattle.gb_script.specs.declared.script.Call.{Call}
use Rattle.gb_script.specs.declared.script.Clause.{Clause}
use Rattle.gb_script.specs.declared.script.Statement.{Statement}
use Rattle.gb_script.specs.declared.script.Statement.TheVariants as statements
use Rattle.gb_registry.specs.Projects.{Path}
use Rattle.gb_core.specs.Path.{task_in}

-- a statement, and the project whose script contains it
pub record Said : Type 0 where
  pub project : Path
  pub statement : Statement

abbrev pub said_by : Path × List Statement → List Said
said_by script = map (λ statement. record { project = script.0; statement = statement }) script.1

-- the statements of all scripts, in the order of the projects
abbrev pub all_said : List Path → List (List Statement) → List Said
all_said projects scripts = flat_map said_by (zip projects scripts)

-- the script of one project
abbrev pub script_of : List Said → Path → List Statement
script_of said project = map (λ s. s.statement) (filter (λ s. bytes_eq s.project project) said)

-- ---- Properties

-- the property that a statement declares
abbrev pub declared_property : Statement → Option (List ℕ)
declared_property (statements.Property name) = Some name
declared_property other = None

-- the properties that a project's script declares
abbrev pub properties_of : List Said → Path → List (List ℕ)
properties_of said project = filter_map declared_property (script_of said project)

-- the value that a property is set to after a statement, given the one before it
abbrev pub set_after : List ℕ → Option Tree → Statement → Option Tree
set_after name before (statements.Set a) = if bytes_eq a.name name then Some a.value else before
set_after name before (statements.Unset w) = if bytes_eq w name then None else before
set_after name before other = before

-- its convention after a statement, given the one before it
abbrev pub convention_after : List ℕ → Option Tree → Statement → Option Tree
convention_after name before (statements.Convention a) = if bytes_eq a.name name then Some a.value else before
convention_after name before other = before

-- ---- Tasks

-- A registered task: its path, the call after the colon, and the clauses of all its blocks, in the order of
-- the script.
pub record Registered : Type 0 where
  pub project : Path
  pub path : Path
  pub action : Option Call
  pub clauses : List Clause

-- the clauses that a `named` adds to the task of a name
abbrev pub added_clauses : List ℕ → Statement → List Clause
added_clauses name (statements.Named c) = if bytes_eq c.name name then c.block else []
added_clauses name other = []

abbrev pub registered_by : List Said → Said → Option Registered
registered_by said s = from s.statement
  where
    from : Statement → Option Registered
    from (statements.Register r) = Some (record {
      project = s.project;
      path = task_in s.project r.name;
      action = r.action;
      clauses = r.block ++ flat_map (added_clauses r.name) (script_of said s.project);
    })
    from other = None

-- the tasks, in the order in which they are registered
abbrev pub tasks_of : List Said → List Registered
tasks_of said = filter_map (registered_by said) said

-- the path that a statement registers
abbrev pub registered_path : Said → Option Path
registered_path s = from s.statement
  where
    from : Statement → Option Path
    from (statements.Register r) = Some (task_in s.project r.name)
    from other = None

abbrev pub paths_of : List Said → List Path
paths_of said = filter_map registered_path said

abbrev pub task_at : List Said → Path → Option Registered
task_at said path = find (λ task. bytes_eq task.path path) (tasks_of said)
