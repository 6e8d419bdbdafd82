use Rattle.std.proofs.Common.{◌++◌, [], List, map, get_or, inr, sym, subst, ◌∙◌, arith}
use Rattle.gb_plan.specs.declared.plan.Planned.{Planned}
use Rattle.gb_plan.specs.Task.{Path}
use Rattle.gb_plan.specs.Graph.{order, stuck}
use Rattle.gb_plan.specs.Refusal.{IsCycle}
use Rattle.gb_graph.specs.Order.{rows}
use Rattle.gb_graph.specs.Ranked.{AreRanked, AreRanks}
use Rattle.gb_graph.specs.Words.{asked}
use Rattle.gb_graph.proofs.Cycled.{cycle_refused, schedule_of, some_number, no_number}
use Rattle.gb_graph.proofs.plans.ordered.Goals as goal

pub rank-requires : goal.rank-requires
rank-requires g c = c.in_ok-planned.ensures.scheduled.once

pub ranks_of-requires : goal.ranks_of-requires
ranks_of-requires g c = subst AreRanked (sym c.as_slice.ensures.value) c.rank.ensures.ranked

pub cycle_of-requires : goal.cycle_of-requires
cycle_of-requires g c =
    let others = c.in_ok-ranks.ranks.others in
    record {
      ranked = subst AreRanked (sym c.as_slice-then-not-is_empty.ensures.value) c.rank.ensures.ranked;
      ranks = subst (λ (ts : List Planned). AreRanks ts (rows c.in_ok-ranks.ranks.after.items) c.in_ok-ranks.ranks.order.items others.items)
          (c.as_slice.ensures.value ∙ sym c.as_slice-then-not-is_empty.ensures.value) c.in_ok-ranks.ensures;
      some = some_number others.items others.len (omega arith) (sym c.is_empty.ensures ∙ c.if-not-is_empty.true);
    }

pub in_order-requires : goal.in_order-requires
in_order-requires g c =
    let others = c.in_ok-ranks.ranks.others in
    record {
      ranked = c.rank.ensures.ranked;
      ranks = subst (λ (ts : List Planned). AreRanks ts (rows c.in_ok-ranks.ranks.after.items) c.in_ok-ranks.ranks.order.items others.items) c.as_slice.ensures.value c.in_ok-ranks.ensures;
      all_ready = no_number others.items others.len (omega arith) (sym c.is_empty.ensures ∙ c.if-not-is_empty.false);
    }

pub returns : goal.returns
returns g c =
    let registry = g.T.Tasks.registry c.args.tasks.now in
    let request = asked registry c.args.requested.now c.args.excluded.now in
    record {
      kept = c.in_ok-planned.ensures.kept;
      plan = (
        request,
        c.in_ok-planned.ensures.request,
        schedule_of request c.in_ok-planned.planned.items c.rank.new.tasks.items c.in_ok-in_order.field-0.items c.in_ok-planned.ensures.scheduled c.rank.ensures.same c.in_ok-in_order.ensures.arranged,
        c.in_ok-in_order.ensures.ready,
      );
      fault = tt;
    }

pub returns-then-not-is_empty : goal.returns-then-not-is_empty
returns-then-not-is_empty g c =
    let registry = g.T.Tasks.registry c.args.tasks.now in
    let request = asked registry c.args.requested.now c.args.excluded.now in
    let sorted = c.rank.new.tasks.items in
    let others = c.in_ok-ranks.ranks.others in
    let done = c.in_ok-ranks.ranks.order.items in
    let cycle : List Path = c.in_ok-cycle_of.field-0 in
    let some = some_number others.items others.len (omega arith) (sym c.is_empty.ensures ∙ c.if-not-is_empty.true) in
    record {
      kept = c.in_ok-planned.ensures.kept;
      plan = tt;
      fault = inr (inr (
        request,
        c.in_ok-planned.ensures.request,
        cycle_refused request c.in_ok-planned.planned.items sorted (rows c.in_ok-ranks.ranks.after.items) done others.items cycle c.in_ok-planned.ensures.scheduled c.rank.ensures.same c.rank.ensures.ranked
            (subst (λ (ts : List Planned). AreRanks ts (rows c.in_ok-ranks.ranks.after.items) done others.items) c.as_slice.ensures.value c.in_ok-ranks.ensures) some
            (λ d. subst (λ (ts : List Planned). IsCycle (map (λ k. get_or ts k d) (done ++ others.items)) (order (stuck (map (λ k. get_or ts k d) (done ++ others.items)) [] (map (λ k. get_or ts k d) (done ++ others.items)))) cycle)
            c.as_slice-then-not-is_empty.ensures.value (c.in_ok-cycle_of.ensures d)),
      ));
    }
