-- The guarantees for a task that is realised.
use Rattle.std.specs.Prelude.{◌≡◌, true, Some, Ok}
use Rattle.std.specs.List.{AllByRecursion}
use Rattle.gb_core.specs.Place.{is_beneath}
use Rattle.gb_plan.specs.Ready.{IsReady}
use Rattle.gb_plan.specs.Task.{IsShaped}
use Rattle.gb_plan.specs.declared.task.TaskDeclaration.{TaskDeclaration}
use Rattle.gb_registry.specs.Projects.{Path}
use Rattle.gb_registry.specs.Said.{Registered, task_at}
use Rattle.gb_registry.specs.Source.{Source}
use Rattle.gb_registry.specs.Tables.{Tables}
use Rattle.gb_declare.specs.Realised.{realised}
use Rattle.gb_declare.specs.Whole.{build_folder}

-- The task has its own path, no outputs without actions, its outputs under the build folder of its project,
-- and actions that can be called.
pub record IsSound {M F Z S A : Type 0} (tables : Tables M F Z S A) (at : Registered)
    (task : TaskDeclaration) : Type 0 where
  pub own : task.path ≡ at.path
  pub shaped : IsShaped task
  pub built : AllByRecursion (λ output. is_beneath output.place (build_folder at.project) ≡ true) task.outputs
  pub ready : IsReady tables.shapes tables.kinds task

-- a task that is realised is registered, and sound
abbrev pub RealisedIsSound : {M F Z S A : Type 0} → Tables M F Z S A → Source → Type 0
RealisedIsSound tables source =
    (path : Path) (task : TaskDeclaration) → realised tables source path ≡ Ok task →
    (at : Registered) × (task_at source.said path ≡ Some at) × IsSound tables at task
