-- A plan of what was requested of tasks that can be built is one that can be built.
use Rattle.std.specs.Prelude.{◌≡◌, List}
use Rattle.std.specs.List.{AllByRecursion}
use Rattle.std.proofs.Common.{sym, subst}
use Rattle.gb_action.specs.Meanings.{Meanings}
use Rattle.gb_graph.specs.Answer.{IsPlanOf}
use Rattle.gb_plan.specs.Graph.{IsDeclared, IsRegistry, Plan, Registry}
use Rattle.gb_plan.specs.Ready.{Rows}
use Rattle.gb_plan.specs.Task.{Text}
use Rattle.gb_plan.specs.declared.plan.Planned.{Planned}
use Rattle.gb_plan.proofs.Registered.{planned_declared}
use Rattle.gb_plan.proofs.Tests.{each_all}
use Rattle.gb_build.specs.Asking.{AreBuildable}
use Rattle.gb_build.proofs.RequestAsked.{planned_all, request_registry}
use Rattle.gb_exec.specs.Building.{CanBuild}
use Rattle.gb_task.specs.Buildable.{IsBuildable}
use Rattle.gb_build.proofs.Changed.{HaveOwnPlaces}

-- a plan of what the arguments request
pub plan_of : (registry : Registry) (one requested other excluded : List Text) (plan : Plan) → one ≡ requested → other ≡ excluded → IsPlanOf registry one other plan → IsPlanOf registry requested excluded plan
plan_of registry one requested other excluded plan same_requested same_excluded is =
    subst (λ (words : List Text). IsPlanOf registry requested words plan) same_excluded (subst (λ (words : List Text). IsPlanOf registry words other plan) same_requested is)

module _ (registry : Registry) (requested excluded : List Text) (plan : Plan) (is_plan : IsPlanOf registry requested excluded plan) where
  pub can_build : {S : Type 0} (meanings : Meanings S) (rows : Rows S) → AreBuildable meanings rows registry → CanBuild meanings rows plan
  can_build meanings rows buildable = record {
    tasks =
        planned_all (IsBuildable meanings rows) is_plan.0 plan
        (subst (AreBuildable meanings rows) (sym (request_registry registry requested excluded is_plan.0 is_plan.1)) buildable) is_plan.2.schedule;
    once = is_plan.2.schedule.once;
    all_ready = is_plan.2.all_ready;
    sound = is_plan.2.sound;
  }

  -- each of its tasks is declared as the registry requires
  pub all_declared : IsRegistry registry → AllByRecursion (λ (planned : Planned). IsDeclared registry planned.task.path planned.task) plan
  all_declared sound =
      let same = request_registry registry requested excluded is_plan.0 is_plan.1 in
      subst (λ (r : Registry). AllByRecursion (λ (planned : Planned). IsDeclared r planned.task.path planned.task) plan) same
      (planned_declared is_plan.0 plan (subst IsRegistry (sym same) sound) is_plan.2.schedule)

-- no output of a plan that can be built is the tool's own
pub own_places : {S : Type 0} (meanings : Meanings S) (rows : Rows S) (plan : Plan) → CanBuild meanings rows plan → HaveOwnPlaces plan
own_places meanings rows plan can = each_all _ _ (λ planned is. is.not_own) plan can.tasks
