use Rattle.std.proofs.Common.{◌≡◌, ◌<◌, ◌↔◌, ℕ, Vec, length, Contains, ap, sym, subst, ◌∙◌, arith}
use Rattle.std.proofs.lemmas.List.{length-map}
use Rattle.std.proofs.lemmas.Result.{IfOk-weaker}
use Rattle.std.specs.Global.{Global}
use Rattle.gb_graph.specs.Order.{rows, row, InOrder, AreTasks}
use Rattle.gb_graph.specs.Chains.{IsAfter, bit_in}
use Rattle.gb_graph.specs.Conflicts.{GiveChains}
use Rattle.gb_graph.proofs.Planned.{lower, chains_reported}
use Rattle.gb_graph.proofs.chained.chains_in.Goals as goal

pub in_number_order-requires : goal.in_number_order-requires
in_number_order-requires c =
    let after = c.in_ok-after.after.items in
    subst (λ vs. (task before : ℕ) → Contains (row (rows vs) task) before → before < task) (sym c.as_slice.ensures.value)
    (lower c.args.tasks.now c.requires.once (rows after) c.in_ok-after.ensures c.requires.ready)

pub chains_of-requires : goal.chains_of-requires
chains_of-requires c =
    let tasks = c.args.tasks.now in
    let after = c.in_ok-after.after.items in
    let reported = c.in_ok-after.ensures in
    let wide = length-map after (λ v. v.items) in
    record {
      tasks = subst (λ vs. AreTasks (rows vs)) (sym c.as_slice-2.ensures.value)
          (λ task before h. let low = (reported.known task before h).1 in omega (arith, low, reported.each));
      order = subst (λ ns. InOrder (rows c.as_slice-2.result.now) ns) (sym c.as_slice-3.ensures.value)
          (subst (λ vs. InOrder (rows vs) c.in_ok-order.order.items) (c.as_slice.ensures.value ∙ sym c.as_slice-2.ensures.value) c.in_ok-order.ensures.order);
    }

pub returns : goal.returns
returns c =
    let tasks = c.args.tasks.now in
    let after = c.in_ok-after.after.items in
    let reported = c.in_ok-after.ensures in
    let wide = length-map after (λ v. v.items) in
    let same = ap length c.as_slice.ensures.value in
    let numbers = c.as_slice-3.result.now in
    let all : (t : ℕ) → t < length (rows after) → Contains numbers t = λ t lt.
    subst (λ ns. Contains ns t) (sym c.as_slice-3.ensures.value) (c.in_ok-order.ensures.all t (omega (arith, lt, wide, same))) in
    IfOk-weaker c.chains_of.result
    (λ (found : Vec (Vec ℕ Global) Global). (t b : ℕ) → Contains numbers t → (bit_in (row (rows found.items) t) b ≡ 1) ↔ IsAfter (rows c.as_slice-2.result.now) t b)
    (λ (found : Vec (Vec ℕ Global) Global). GiveChains tasks (rows found.items))
    (λ found h. chains_reported tasks c.requires.once (rows after) reported numbers all (rows found.items)
    (subst (λ vs. (t b : ℕ) → Contains numbers t → (bit_in (row (rows found.items) t) b ≡ 1) ↔ IsAfter (rows vs) t b) c.as_slice-2.ensures.value h))
    c.chains_of.ensures.chains
