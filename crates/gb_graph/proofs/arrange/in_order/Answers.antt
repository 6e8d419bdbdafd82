use Rattle.std.proofs.Common.{◌≡◌, Vec, Result, Ok, Err, IfOk, get_or, map, Contains, sym, ap, subst, ◌∙◌, arith}
use Rattle.std.specs.Global.{Global}
use Rattle.gb_plan.specs.declared.plan.Planned.{Planned}
use Rattle.gb_graph.specs.Order.{rows}
use Rattle.gb_graph.specs.Ranked.{AreDistinct}
use Rattle.gb_graph.proofs.Arranged.{whole_plan}
use Rattle.gb_graph.proofs.Bits.{order_known}
use Rattle.gb_graph.proofs.Numbers.{in_order_separate}
use Rattle.gb_graph.proofs.arrange.in_order.Goals as goal

pub tasks_at-requires-clause-known : goal.tasks_at-requires-clause-known
tasks_at-requires-clause-known c = λ number h.
    let ranks = c.requires.ranks in
    let lt = order_known ranks.is_order.in_order number (subst (λ ks. Contains ks number) c.as_slice.ensures.value h) in
    omega (arith, lt, ranks.reported.each)

pub tasks_at-requires-clause-separate : goal.tasks_at-requires-clause-separate
tasks_at-requires-clause-separate c =
    let ranks = c.requires.ranks in
    subst AreDistinct (sym c.as_slice.ensures.value) (in_order_separate _ _ ranks.is_order.in_order)

each_ok : {E : Type 0} (P : Planned → Vec Planned Global → Type 0) (Q : Vec Planned Global → Type 0) → ((v : Vec Planned Global) → ((d : Planned) → P d v) → Q v)
    → (r : Result (Vec Planned Global) E) → ((d : Planned) → IfOk r (P d)) → IfOk r Q
each_ok P Q f (Ok v) h = f v h
each_ok P Q f (Err e) h = tt

pub returns : goal.returns
returns c =
    let numbers = c.as_slice.result.now in
    let ranks = c.requires.ranks in
    let whole = λ (v : Vec Planned Global) (h : (d : Planned) → v.items ≡ map (λ k. get_or c.args.tasks.items k d) numbers).
    whole_plan c.args.tasks.items v.items (rows c.args.ranks.now.after.items) c.args.ranks.now.order.items c.args.ranks.now.others.items c.requires.ranked ranks c.requires.all_ready
    (λ d. h d ∙ ap (map (λ k. get_or c.args.tasks.items k d)) c.as_slice.ensures.value) in
    record {
      arranged = each_ok _ _ (λ v h. (whole v h).0) c.tasks_at.result c.tasks_at.ensures;
      ready = each_ok _ _ (λ v h. (whole v h).1) c.tasks_at.result c.tasks_at.ensures;
    }
