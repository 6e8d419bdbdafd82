-- The statement of a folder's scripts at which their first fault arises, and scripts that have no such
-- statement.
use Rattle.std.specs.Prelude.{ℕ, ◌≡◌, ◌⊎◌, List, [], Err, Ok, Some, zip}
use Rattle.gb_folder.specs.Files.{Files}
use Rattle.gb_registry.specs.Configure.{configure_faults}
use Rattle.gb_registry.specs.Faults.{first_of}
use Rattle.gb_registry.specs.Faulty.{IsFirstAt}
use Rattle.gb_registry.specs.Projects.{project_paths, projects_of}
use Rattle.gb_registry.specs.Source.{source_of}
use Rattle.gb_registry.specs.Tables.{Tables}
use Rattle.gb_registry.specs.declared.first_fault.FaultAt.{FaultAt}
use Rattle.gb_report.specs.declared.fault.Fault.{Fault}
use Rattle.gb_script.specs.declared.script.Statement.{Statement}
use Rattle.gb_build.specs.Scripts.{ScriptsDeclare, SettingsDeclare, script_places}

-- The settings and the scripts of the folder can be read, and this is the first fault of their statements, at
-- the statement at which it arises.
pub record IsFaulty {M F Z S A : Type 0} (tables : Tables M F Z S A) (files : Files) (at : FaultAt) : Type 0
  where
    pub settings : List (List (List ℕ))
    pub texts : List (List Statement)
    pub settings_say : SettingsDeclare files (Ok settings)
    pub scripts_say : ScriptsDeclare files (script_places (projects_of settings)) (Ok texts)
    pub fault_is : first_of (configure_faults tables (source_of settings texts [])) ≡ Some at.fault
    pub first_at : IsFirstAt tables (source_of settings texts []).names
        (zip (project_paths settings) texts) at

-- The settings and the scripts of the folder can be read, and none of their statements has a fault.
pub record IsFaultless {M F Z S A : Type 0} (tables : Tables M F Z S A) (files : Files) : Type 0 where
  pub settings : List (List (List ℕ))
  pub texts : List (List Statement)
  pub settings_say : SettingsDeclare files (Ok settings)
  pub scripts_say : ScriptsDeclare files (script_places (projects_of settings)) (Ok texts)
  pub none : configure_faults tables (source_of settings texts []) ≡ []

-- The settings or the scripts of the folder cannot be read: this is the first fault of their texts.
abbrev pub IsTextFault : Files → Fault → Type 0
IsTextFault files fault =
    SettingsDeclare files (Err fault)
    ⊎ ((settings : List (List (List ℕ))) × SettingsDeclare files (Ok settings)
    × ScriptsDeclare files (script_places (projects_of settings)) (Err fault))
