use Rattle.std.proofs.Common.{◌≡◌, length, Contains, ap, subst, arith}
use Rattle.gb_graph.specs.Order.{rows, row}
use Rattle.gb_graph.proofs.Bits.{order_known}
use Rattle.gb_graph.proofs.arrange.ranks_of.Goals as goal

pub order_of-requires : goal.order_of-requires
order_of-requires c = record {
  tasks = λ task before h.
      let reported = c.in_ok-after.ensures in
      let same : c.as_slice.result.now ≡ c.in_ok-after.after.items = c.as_slice.ensures.value in
      let lt = (reported.known task before (subst (λ vs. Contains (row (rows vs) task) before) same h)).1 in
      let long = ap (λ vs. length (rows vs)) same in
      omega (arith, lt, long, reported.each);
}

pub others_of-requires : goal.others_of-requires
others_of-requires c = λ number h.
    let reported = c.in_ok-after.ensures in
    let lt = order_known c.in_ok-order.ensures.order.in_order number (subst (λ ks. Contains ks number) c.as_slice-2.ensures.value h) in
    let long = ap (λ vs. length (rows vs)) c.as_slice.ensures.value in
    omega (arith, lt, long, reported.each)
