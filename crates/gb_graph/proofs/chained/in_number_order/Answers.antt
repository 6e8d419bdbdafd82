use Rattle.std.proofs.Common.{◌≡◌, ◌<◌, ℕ, List, length, Contains, sym, subst, ◌↔◌, ◌+◌, arith, ap}
use Rattle.std.proofs.lemmas.List.{length-map}
use Rattle.gb_graph.specs.Order.{rows, InOrder, begins}
use Rattle.gb_graph.proofs.InSequence.{execution_order, execution_reported}
use Rattle.gb_graph.proofs.chained.in_number_order.Goals as goal

pub loop-number-preserved : goal.loop-number-preserved
loop-number-preserved c =
    let numbers = c.loop-number.numbers.items in
    let n = c.loop-number.number in
    let after = c.args.after.now in
    let old = c.loop-number.invariant in
    let is = c.in_ok-push.ensures.items in
    let wide : length (rows after) ≡ length after = length-map after (λ v. v.items) in
    record {
      order = subst (InOrder (rows after)) (sym is) (execution_order (rows after) numbers n c.requires (omega (arith, c.loop-number-test.true, wide)) old.reported old.order);
      reported = subst (λ (xs : List ℕ). (k : ℕ) → Contains xs k ↔ (k < n + 1)) (sym is) (execution_reported numbers n old.reported);
    }

pub loop-number-init : goal.loop-number-init
loop-number-init c =
    let none = c.new-numbers.ensures.items in
    record {
      order = subst (InOrder (rows c.args.after.now)) (sym none) begins;
      reported = λ k. (λ h. absurd (let e = ap length none in omega (arith, h.1, e)), λ lt. absurd (omega (arith, lt)));
    }

pub returns-clause-all : goal.returns-clause-all
returns-clause-all c = λ task lt. (c.loop-number.invariant.reported task).1 (omega (arith, lt, c.loop-number-test.false))
