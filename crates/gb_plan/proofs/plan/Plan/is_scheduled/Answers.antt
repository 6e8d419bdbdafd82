use Rattle.std.proofs.Common.{◌≡◌, List, subst, ◌∙◌}
use Rattle.gb_plan.specs.declared.plan.Planned.{Planned}
use Rattle.gb_plan.specs.Graph.{is_scheduled_in}
use Rattle.gb_plan.proofs.Plans.{scheduled_is}
use Rattle.gb_plan.proofs.plan.Plan.is_scheduled.Goals as goal

pub returns : goal.returns
returns c =
    let path = c.args.path.now in
    subst (λ (plan : List Planned). c.exists.result ≡ is_scheduled_in plan path) c.as_slice.ensures (c.exists.ensures ∙ scheduled_is c.as_slice.result.now path)
