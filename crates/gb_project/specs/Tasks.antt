-- The tasks that the script of a project registers.
use Rattle.std.specs.Prelude.{List, ◌++◌, filter_map, Option, Some, None}
use Rattle.std.specs.List.{flat_map}
use Rattle.gb_core.specs.Path.{task_in}
use Rattle.gb_registry.specs.Projects.{Path}
use Rattle.gb_registry.specs.Said.{Registered, added_clauses}
use Rattle.gb_script.specs.declared.script.Statement.{Statement}
use Rattle.gb_script.specs.declared.script.Statement.TheVariants as statements

-- what a statement registers, with the clauses that all of the script adds to it
abbrev pub registered_in : Path → List Statement → Statement → Option Registered
registered_in project script (statements.Register r) = Some (record {
  project = project;
  path = task_in project r.name;
  action = r.action;
  clauses = r.block ++ flat_map (added_clauses r.name) script;
})
registered_in project script other = None

-- the tasks, in the order in which they are registered
abbrev pub script_tasks : Path × List Statement → List Registered
script_tasks script = filter_map (registered_in script.0 script.1) script.1
