-- What a build requires of its plan, and where its tasks change files.
use Rattle.std.specs.Prelude.{◌≡◌, Bool, true, List, []}
use Rattle.std.specs.List.{AllByRecursion, list_any}
use Rattle.gb_action.specs.Meanings.{Meanings}
use Rattle.gb_folder.specs.Files.{Place}
use Rattle.gb_plan.specs.Graph.{IsSound, Plan, no_repeats, order, stuck}
use Rattle.gb_plan.specs.Ready.{Rows}
use Rattle.gb_plan.specs.declared.plan.Planned.{Planned}
use Rattle.gb_task.specs.Buildable.{IsBuildable}
use Rattle.gb_task.specs.Executing.{is_of_execution}

-- Each task of the plan can be built, occurs once and gets ready, and the plan is sound.
pub record CanBuild {S : Type 0} (meanings : Meanings S) (rows : Rows S) (plan : Plan) : Type 0 where
  pub tasks : AllByRecursion (λ planned. IsBuildable meanings rows planned.task) plan
  pub once : no_repeats (order plan) ≡ true
  pub all_ready : stuck plan [] plan ≡ []
  pub sound : IsSound plan

-- the place is at an output of one of these tasks, or that of its record
abbrev pub is_of_executions : List Planned → Place → Bool
is_of_executions plan place = list_any (λ planned. is_of_execution planned.task place) plan
