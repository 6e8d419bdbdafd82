-- What a task has to be for its execution.
use Rattle.std.specs.Prelude.{◌≡◌, false}
use Rattle.std.specs.List.{list_any}
use Rattle.gb_action.specs.Meanings.{Meanings}
use Rattle.gb_folder.specs.Files.{is_own}
use Rattle.gb_label.specs.Deciding.{HasNamesInOrder}
use Rattle.gb_plan.specs.Ready.{IsReady, Rows}
use Rattle.gb_plan.specs.declared.task.TaskDeclaration.{TaskDeclaration as Task}

-- The actions of the task are ready, its names ascend, and none of its outputs is the tool's own.
pub record IsBuildable {S : Type 0} (meanings : Meanings S) (rows : Rows S) (task : Task) : Type 0 where
  pub ready : IsReady meanings rows task
  pub in_order : HasNamesInOrder task
  pub not_own : list_any (λ output. is_own output.place) task.outputs ≡ false
