-- The run of a task's actions in full, and how it ends well.
use Rattle.std.specs.Prelude.{◌≡◌, if◌then◌else◌, List, [], ◌∷◌, None, Result, Ok, Err}
use Rattle.gb_folder.specs.Files.{is_empty, Files}
use Rattle.gb_action.specs.declared.reply.Written.{Written}
use Rattle.gb_action.specs.Changes.{Changes}
use Rattle.gb_action.specs.Files.{Trees}
use Rattle.gb_plan.specs.Task.{Text}
use Rattle.gb_plan.specs.declared.task.Action.{Action}
use Rattle.gb_plan.specs.declared.task.Output.{Output}
use Rattle.gb_plan.specs.declared.task.TaskDeclaration.{TaskDeclaration as Task}
use Rattle.gb_semantics.specs.Kinds.{Kinds}
use Rattle.gb_semantics.specs.Made.{placed, put_over, step_faults}
use Rattle.gb_semantics.specs.Run.{Ended, ends}
use Rattle.gb_semantics.specs.Execution.{lines_of}
use Rattle.gb_run.specs.Asking.{made_by}

-- What a run depends on: what kinds mean, the task with its trees and its change lists, and the rest of the
-- folder.
pub record RunInput : Type 0 where
  pub kinds : Kinds
  pub task : Task
  pub trees : Trees
  pub changes : List Changes
  pub rest : Files

abbrev pub run_input : Kinds → Task → Trees → List Changes → Files → RunInput
run_input kinds task trees changes rest =
    record { kinds = kinds; task = task; trees = trees; changes = changes; rest = rest }

-- the run of these actions, from no file
abbrev pub run_along : RunInput → List Action → Ended
run_along input actions =
    ends input.kinds input.task.outputs input.task.values input.trees input.rest [] actions

-- the run of all actions of the task
abbrev pub whole_run : RunInput → Ended
whole_run input = run_along input input.task.actions

-- the lines that these actions print
abbrev pub lines_by : RunInput → List Action → List Text
lines_by input actions = lines_of input.kinds input.task input.trees input.changes actions

-- ---- The end

-- The run ended well: the folder is the rest with what was made put over it, and each action printed its
-- lines.
pub record EndsWell (input : RunInput) (lines : List Text) (new : Files) : Type 0 where
  pub no_fault : (whole_run input).fault ≡ None
  pub files : new ≡ put_over input.rest (whole_run input).held
  pub printed : lines ≡ lines_by input input.task.actions

-- ---- The action at hand

-- the files of an action by place, if the task's files have no fault among themselves
abbrev pub free_files : List Output → Files → Result (List Written) Text → Files
free_files outputs held (Err text) = []
free_files outputs held (Ok written) =
    if is_empty (step_faults outputs held (placed outputs written)) then put_over [] (placed outputs written)
    else []

-- those of the action at hand, the first of those left
abbrev pub files_at_hand : RunInput → Files → List Action → Files
files_at_hand input held [] = []
files_at_hand input held (action ∷ later) =
    free_files input.task.outputs held (made_by input.kinds input.task action input.trees)
