-- Tasks that scripts and arguments name.
use Rattle.std.specs.Prelude.{ℕ, List, [], ◌∷◌, if◌then◌else◌}
use Rattle.gb_core.specs.Path.{is_task_path, project_of}
use Rattle.gb_report.specs.declared.fault.Fault.{Fault}
use Rattle.gb_report.specs.declared.fault.Fault.TheVariants as faults
use Rattle.gb_registry.specs.Projects.{Path, absolute, is_among}

-- the projects, and the tasks that all scripts register
pub record Names : Type 0 where
  pub projects : List Path
  pub tasks : List Path

-- the text is no path
abbrev pub name_faults : Path → List ℕ → List Fault
name_faults project text = if is_task_path (absolute project text) then [] else faults.BadName text ∷ []

-- there is no such project, or no such task in it
abbrev pub lookup_faults : Names → Path → List ℕ → List Fault
lookup_faults names project text =
    if is_among names.projects (project_of (absolute project text)) then
    (if is_among names.tasks (absolute project text) then [] else faults.TaskNotFound text ∷ [])
    else faults.UnknownProject text ∷ []

-- why a text in a project names no task
abbrev pub reference_faults : Names → Path → List ℕ → List Fault
reference_faults names project text =
    if is_task_path (absolute project text) then lookup_faults names project text
    else faults.BadName text ∷ []
