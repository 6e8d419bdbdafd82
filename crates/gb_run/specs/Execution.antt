-- The execution of the action that writes, and how it ends or stops.
use Rattle.std.specs.Prelude.{ℕ, ◌≡◌, ◌⊎◌, List, [], ◌∷◌, Ok}
use Rattle.std.specs.List.{AllByRecursion}
use Rattle.gb_folder.specs.Files.{Files, Tearing}
use Rattle.gb_report.specs.declared.fault.Fault.{Fault}
use Rattle.gb_action.specs.Changes.{Changes}
use Rattle.gb_action.specs.Files.{Trees}
use Rattle.gb_action.specs.declared.output_files.OutputFiles.{OutputFiles}
use Rattle.gb_tree.specs.Prints.{digests_of}
use Rattle.gb_plan.specs.declared.task.Action.{Action}
use Rattle.gb_plan.specs.declared.task.TaskDeclaration.{TaskDeclaration as Task}
use Rattle.gb_semantics.specs.Kinds.{Kinds}
use Rattle.gb_semantics.specs.Made.{full_outputs, put_over, put_result, rest_of}
use Rattle.gb_semantics.specs.Run.{step_by}
use Rattle.gb_run.specs.Asking.{made_by}
use Rattle.gb_run.specs.RunInput.{free_files}
use Rattle.gb_run.specs.AskingChanges.{GoesOn, IsFitting, writers}
use Rattle.gb_run.specs.Stepping.{StopsAt}
use Rattle.gb_run.specs.Steps.{LeadTo, Step}

-- The action is the one that writes, and its execution is based on the current files.
pub record IsItsExecution (kinds : Kinds) (task : Task) (action : Action) (trees : Trees)
    (changes : List Changes)
    (observed : List OutputFiles) (files : Files) : Type 0 where
  pub fitting : AllByRecursion (IsFitting kinds task) task.actions
  pub old : Trees
  pub goes_on : GoesOn kinds task old trees changes observed files
  pub writes : writers kinds task.actions ≡ action ∷ []

-- It ends: the folder is the rest with its files.
pub record Ends (kinds : Kinds) (task : Task) (action : Action) (trees : Trees)
    (old new : Files) : Type 0 where
  pub more : Files
  pub step : step_by task.outputs (rest_of task old) [] (made_by kinds task action trees) ≡ Ok more
  pub few : full_outputs task.outputs more ≡ []
  pub files : new ≡ put_over (rest_of task old) more

-- It makes files, and these are their digests.
pub record Makes (kinds : Kinds) (task : Task) (action : Action) (trees : Trees)
    (digests : Files) : Type 0 where
  pub more : Files
  pub put : put_result task.outputs [] (made_by kinds task action trees) ≡ Ok more
  pub few : full_outputs task.outputs more ≡ []
  pub prints : digests ≡ digests_of more

-- Its steps: none, or those that lead to the folder with its files.
abbrev pub AreOfExecution : Kinds → Task → Action → Trees → Files → List Step → Type 0
AreOfExecution kinds task action trees old steps =
    (steps ≡ [])
    ⊎ LeadTo old (put_over (rest_of task old)
    (put_over [] (free_files task.outputs [] (made_by kinds task action trees)))) steps

-- It stops, by itself or by the machine. Some first steps of it are done.
abbrev pub Stops : Kinds → Task → Action → Trees → Files → Tearing → ℕ → Fault → ℕ → Files → Type 0
Stops kinds task action trees old may_leave before fault after new =
    StopsAt (AreOfExecution kinds task action trees old)
    (step_by task.outputs (rest_of task old) [] (made_by kinds task action trees)) may_leave before old fault
    after new
