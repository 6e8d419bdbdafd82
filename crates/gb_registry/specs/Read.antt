-- How a registry is made: settings and scripts are read.
use Rattle.std.specs.Prelude.{◌≡◌, ℕ, List, [], zip}
use Rattle.gb_script.specs.declared.script.Statement.{Statement}
use Rattle.gb_registry.specs.Projects.{Path, project_paths, settings_faults}
use Rattle.gb_registry.specs.Source.{Source, source_of}

-- The source consists of settings without a fault and a text for each of their projects. The scripts are
-- these projects, each with the statements of its text.
pub record IsRead (source : Source) (scripts : List (Path × List Statement)) : Type 0 where
  pub settings : List (List (List ℕ))
  pub texts : List (List Statement)
  pub good : settings_faults settings ≡ []
  pub each : scripts ≡ zip (project_paths settings) texts
  pub said : source ≡ source_of settings texts source.given
