-- The source of a registry: settings, one script for each project, and the values that the command line
-- gives.
use Rattle.std.specs.Prelude.{ℕ, List}
use Rattle.gb_script.specs.declared.script.Statement.{Statement}
use Rattle.gb_registry.specs.Projects.{Path, project_paths}
use Rattle.gb_registry.specs.References.{Names}
use Rattle.gb_registry.specs.Said.{Said, all_said, paths_of}

-- The names of projects and tasks, all statements, and values by the names of properties.
pub record Source : Type 0 where
  pub names : Names
  pub said : List Said
  pub given : List (List ℕ × List ℕ)

-- the source of these projects
abbrev pub source_with : List Path → List (List Statement) → List (List ℕ × List ℕ) → Source
source_with projects scripts given =
    let said = all_said projects scripts in
    record { names = record { projects = projects; tasks = paths_of said }; said = said; given = given }

-- the source of settings
abbrev pub source_of : List (List (List ℕ)) → List (List Statement) → List (List ℕ × List ℕ) → Source
source_of settings scripts given = source_with (project_paths settings) scripts given
