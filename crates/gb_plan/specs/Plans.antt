-- Queries on a plan: which tasks it has, and what they need and finalize.
use Rattle.std.specs.Prelude.{◌≡◌, ◌&&◌, Bool, List, map, bytes_eq, Contains}
use Rattle.std.specs.List.{list_any, flat_map, filter}
use Rattle.gb_plan.specs.declared.task.TaskDeclaration.{TaskDeclaration}
use Rattle.gb_plan.specs.Task.{Path}
use Rattle.gb_plan.specs.Graph.{Plan, needs_in}

-- the plan has a task at the path, which a requested name selects
abbrev pub is_selected_in : Plan → Path → Bool
is_selected_in plan path =
    list_any (λ planned. bytes_eq planned.task.path path && planned.is_selected) plan

-- what the tasks at a path need, restricted to the scheduled ones
abbrev pub needs_at : Plan → Path → List Path
needs_at plan path =
    flat_map (λ planned. needs_in plan planned.task)
    (filter (λ planned. bytes_eq planned.task.path path) plan)

-- what a task of the plan declares
pub record IsDeclarationIn (plan : Plan) (path : Path) (task : TaskDeclaration) : Type 0 where
  pub own_path : task.path ≡ path
  pub task_in : Contains (map (λ planned. planned.task) plan) task
