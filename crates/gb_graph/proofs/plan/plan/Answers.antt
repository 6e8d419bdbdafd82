use Rattle.std.proofs.Common.{Option, subst, inr}
use Rattle.gb_plan.specs.Graph.{Plan}
use Rattle.gb_graph.specs.Answer.{IsJudged}
use Rattle.gb_graph.specs.declared.refusal.Refusal.{Refusal}
use Rattle.gb_graph.proofs.plan.plan.Goals as goal

pub returns-in-Some-clause-fault : goal.returns-in-Some-clause-fault
returns-in-Some-clause-fault g c =
    let planned = c.in_ok-ordered.ensures.plan in
    let items = c.in_ok-ordered.ordered.items in
    let judged = subst (λ (plan : Plan). IsJudged plan c.in_ok-refusal_of.field-0) c.as_slice.ensures.value c.in_ok-refusal_of.ensures in
    let first = subst (λ (refusal : Option Refusal). IsJudged items refusal) c.in-Some.is judged in
    inr (inr (planned.0, planned.1, inr (items, planned.2, c.reported.ensures items planned.3 first)))
