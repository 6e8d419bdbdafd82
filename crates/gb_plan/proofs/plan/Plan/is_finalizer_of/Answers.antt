use Rattle.std.proofs.Common.{◌≡◌, List, subst, ◌∙◌}
use Rattle.gb_plan.specs.declared.plan.Planned.{Planned}
use Rattle.gb_plan.specs.Task.{has_path}
use Rattle.gb_plan.specs.Graph.{finalized_by}
use Rattle.gb_plan.proofs.Plans.{finalized_is}
use Rattle.gb_plan.proofs.plan.Plan.is_finalizer_of.Goals as goal

pub returns : goal.returns
returns c =
    let task = c.args.task.now in
    let finalizer = c.args.finalizer.now in
    subst (λ (plan : List Planned). c.is_finalized.result ≡ has_path (finalized_by plan finalizer) task) c.as_slice.ensures
    (c.is_finalized.ensures ∙ finalized_is c.as_slice.result.now task finalizer)
