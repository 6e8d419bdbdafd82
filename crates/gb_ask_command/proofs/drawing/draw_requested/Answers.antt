use Rattle.std.proofs.Common.{◌≡◌, subst, sym, true}
use Rattle.gb_plan.specs.Graph.{Plan, no_repeats, order}
use Rattle.gb_ask_command.proofs.drawing.draw_requested.Goals as goal

pub nodes_of-requires : goal.nodes_of-requires
nodes_of-requires g c = subst (λ (plan : Plan). no_repeats (order plan) ≡ true) (sym c.as_slice.ensures) c.in_ok-plan.ensures.plan.2.schedule.once
