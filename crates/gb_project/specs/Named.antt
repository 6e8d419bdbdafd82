-- Whether statements are in scripts of projects, and name what they register.
use Rattle.std.specs.Prelude.{Bool, true, ◌&&◌}
use Rattle.gb_core.specs.Name.{is_name}
use Rattle.gb_core.specs.Path.{is_project_path}
use Rattle.gb_registry.specs.Said.{Said}
use Rattle.gb_script.specs.declared.script.Statement.{Statement}
use Rattle.gb_script.specs.declared.script.Statement.TheVariants as statements

-- a task that is registered has a name
abbrev pub registers_named : Statement → Bool
registers_named (statements.Register r) = is_name r.name
registers_named other = true

-- the statement is in the script of a project, and a task that it registers has a name
abbrev pub is_named : Said → Bool
is_named s = is_project_path s.project && registers_named s.statement
