-- The requests to a task's actions.
use Rattle.std.specs.Prelude.{◌≡◌, map}
use Rattle.gb_action.specs.declared.request.Request.{Request}
use Rattle.gb_plan.specs.Task.{given_files, given_outputs}
use Rattle.gb_plan.specs.declared.task.TaskDeclaration.{TaskDeclaration as Task}

-- The request is for the task, whatever its trees and its change lists are.
pub record IsRequestOf (task : Task) (request : Request) : Type 0 where
  pub values : request.values ≡ task.values
  pub files : map (λ tree. tree.0) request.files ≡ given_files task.files
  pub outputs : map (λ output. (output.name, output.form)) request.outputs ≡ given_outputs task.outputs
