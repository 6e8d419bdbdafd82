-- A declared task is ready for a table of stored actions where each of its actions can be invoked.
use Rattle.std.specs.Prelude.{ℕ, ◌≡◌, List, Some}
use Rattle.std.specs.List.{AllByRecursion}
use Rattle.std.specs.FinMap.Entries.{find}
use Rattle.gb_core.specs.Lists.{byte_order}
use Rattle.gb_action.specs.Meanings.{Meanings, shape_of}
use Rattle.gb_action.specs.Shapes.{fit}
use Rattle.gb_action.specs.declared.shape.Fit.TheVariants.{Yes}
use Rattle.gb_plan.specs.Task.{given_files, given_outputs}
use Rattle.gb_plan.specs.declared.task.Action.{Action}
use Rattle.gb_plan.specs.declared.task.TaskDeclaration.{TaskDeclaration}

-- stored actions by name
abbrev pub Rows : Type 0 → Type 0
Rows S = List (List ℕ × S)

module _ {S : Type 0} (meanings : Meanings S) (rows : Rows S) where
  -- An action of the name and the version is stored, and accepts its arguments, for a task with these files
  -- and outputs.
  pub record IsReadyAction (task : TaskDeclaration) (action : Action) : Type 0 where
    pub stored : S
    pub found : find byte_order action.kind rows ≡ Some stored
    pub version : meanings.version stored ≡ action.version
    pub fits :
        fit (shape_of meanings stored) action.args (given_files task.files) (given_outputs task.outputs) ≡ Yes

  -- each action of the task can be invoked
  abbrev pub IsReady : TaskDeclaration → Type 0
  IsReady task = AllByRecursion (IsReadyAction task) task.actions
