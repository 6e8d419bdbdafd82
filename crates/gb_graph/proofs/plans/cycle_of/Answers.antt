use Rattle.std.proofs.Common.{◌≡◌, ◌++◌, [], ℕ, List, true, length, map, get_or, Contains, sym, ap, subst, ◌∙◌, arith}
use Rattle.std.proofs.lemmas.List.{length-map}
use Rattle.std.proofs.lemmas.Result.{IfOk-weaker}
use Rattle.gb_plan.specs.declared.plan.Planned.{Planned}
use Rattle.gb_plan.specs.Task.{Path}
use Rattle.gb_plan.specs.Graph.{order, stuck}
use Rattle.gb_plan.specs.Refusal.{IsCycle}
use Rattle.gb_graph.specs.Order.{rows, row}
use Rattle.gb_graph.specs.Settled.{is_marked}
use Rattle.gb_graph.specs.Cycle.{IsRound, path_at}
use Rattle.gb_graph.proofs.Cycled.{cycle_is, cycle_known, paths_are, comes_after_other}
use Rattle.gb_graph.proofs.Firsts.{element}
use Rattle.gb_graph.proofs.plans.cycle_of.Goals as goal

pub marks_of-requires : goal.marks_of-requires
marks_of-requires c = λ k h. (c.requires.ranks.are_others.within k (subst (λ ks. Contains ks k) c.as_slice.ensures.value h)).0

pub round_of-requires : goal.round_of-requires
round_of-requires c =
    let tasks = c.args.tasks.now in
    let table = rows c.args.ranks.now.after.items in
    let done = c.args.ranks.now.order.items in
    let others = c.args.ranks.now.others.items in
    let ranks = c.requires.ranks in
    let marks = c.in_ok-marks.marks.items in
    let reported = c.in_ok-marks.ensures.reported in
    let shows : (k : ℕ) → is_marked marks k ≡ true → Contains others k = λ k h. subst (λ ks. Contains ks k) c.as_slice.ensures.value ((reported k).0 h) in
    let marked : (k : ℕ) → Contains others k → is_marked marks k ≡ true = λ k h. (reported k).1 (subst (λ ks. Contains ks k) (sym c.as_slice.ensures.value) h) in
    let some = c.requires.some in
    let long = ap length c.as_slice-2.ensures.value in
    let wide : length table ≡ length c.args.ranks.now.after.items = length-map c.args.ranks.now.after.items (λ v. v.items) in
    let marks_long = ap length c.as_slice-3.ensures.value in
    record {
      known = λ task before h. (ranks.reported.known task before (subst (λ vs. Contains (row (rows vs) task) before) c.as_slice-2.ensures.value h)).1;
      rows = omega (arith, long, wide, ranks.reported.each);
      each = omega (arith, marks_long, c.in_ok-marks.ensures.each);
      among = λ k h. (ranks.are_others.within k (subst (λ ks. Contains ks k) c.as_slice-4.ensures.value h)).0;
      some = (some.0, subst (λ ks. Contains ks some.0) (sym c.as_slice-4.ensures.value) some.1, subst (λ ms. is_marked ms some.0 ≡ true) (sym c.as_slice-3.ensures.value) (marked some.0 some.1));
      goes_on = λ k h.
          let next = comes_after_other tasks table done others ranks k (shows k (subst (λ ms. is_marked ms k ≡ true) c.as_slice-3.ensures.value h)) in
          (next.0, subst (λ vs. Contains (row (rows vs) k) next.0) (sym c.as_slice-2.ensures.value) next.1, subst (λ ms. is_marked ms next.0 ≡ true) (sym c.as_slice-3.ensures.value) (marked next.0 next.2));
    }

pub paths_of-requires : goal.paths_of-requires
paths_of-requires c = λ k h.
    let tasks = c.args.tasks.now in
    let table = rows c.args.ranks.now.after.items in
    let done = c.args.ranks.now.order.items in
    let others = c.args.ranks.now.others.items in
    let ranks = c.requires.ranks in
    let marks = c.in_ok-marks.marks.items in
    let reported = c.in_ok-marks.ensures.reported in
    let shows : (k : ℕ) → is_marked marks k ≡ true → Contains others k = λ k h. subst (λ ks. Contains ks k) c.as_slice.ensures.value ((reported k).0 h) in
    let marked : (k : ℕ) → Contains others k → is_marked marks k ≡ true = λ k h. (reported k).1 (subst (λ ks. Contains ks k) (sym c.as_slice.ensures.value) h) in
    let is : IsRound tasks table marks others c.in_ok-round.round.items =
    subst (λ t. IsRound tasks t marks others c.in_ok-round.round.items) (ap rows c.as_slice-2.ensures.value)
    (subst (λ m. IsRound tasks (rows c.as_slice-2.result.now) m others c.in_ok-round.round.items) c.as_slice-3.ensures.value
    (subst (λ ks. IsRound tasks (rows c.as_slice-2.result.now) c.as_slice-3.result.now ks c.in_ok-round.round.items) c.as_slice-4.ensures.value c.in_ok-round.ensures)) in
    let lt = (ranks.are_others.within c.requires.some.0 c.requires.some.1).0 in
    let d = (element tasks c.requires.some.0 lt).0 in
    cycle_known tasks c.requires.ranked table done others ranks d marks shows marked c.in_ok-round.round.items is k (subst (λ ks. Contains ks k) c.as_slice-5.ensures.value h)

pub returns : goal.returns
returns c =
    let tasks = c.args.tasks.now in
    let table = rows c.args.ranks.now.after.items in
    let done = c.args.ranks.now.order.items in
    let others = c.args.ranks.now.others.items in
    let ranks = c.requires.ranks in
    let marks = c.in_ok-marks.marks.items in
    let reported = c.in_ok-marks.ensures.reported in
    let shows : (k : ℕ) → is_marked marks k ≡ true → Contains others k = λ k h. subst (λ ks. Contains ks k) c.as_slice.ensures.value ((reported k).0 h) in
    let marked : (k : ℕ) → Contains others k → is_marked marks k ≡ true = λ k h. (reported k).1 (subst (λ ks. Contains ks k) (sym c.as_slice.ensures.value) h) in
    let is : IsRound tasks table marks others c.in_ok-round.round.items =
    subst (λ t. IsRound tasks t marks others c.in_ok-round.round.items) (ap rows c.as_slice-2.ensures.value)
    (subst (λ m. IsRound tasks (rows c.as_slice-2.result.now) m others c.in_ok-round.round.items) c.as_slice-3.ensures.value
    (subst (λ ks. IsRound tasks (rows c.as_slice-2.result.now) c.as_slice-3.result.now ks c.in_ok-round.round.items) c.as_slice-4.ensures.value c.in_ok-round.ensures)) in
    let round = c.in_ok-round.round.items in
    IfOk-weaker c.paths_of.result (λ (cycle : List Path). cycle ≡ map (path_at tasks) c.as_slice-5.result.now)
    (λ (cycle : List Path). (d : Planned) → IsCycle (map (λ k. get_or tasks k d) (done ++ others)) (order (stuck (map (λ k. get_or tasks k d) (done ++ others)) [] (map (λ k. get_or tasks k d) (done ++ others)))) cycle)
    (λ cycle h d.
    let low = cycle_known tasks c.requires.ranked table done others ranks d marks shows marked round is in
    subst (IsCycle (map (λ k. get_or tasks k d) (done ++ others)) (order (stuck (map (λ k. get_or tasks k d) (done ++ others)) [] (map (λ k. get_or tasks k d) (done ++ others)))))
    (sym (h ∙ (ap (map (path_at tasks)) c.as_slice-5.ensures.value ∙ paths_are tasks c.requires.ranked table done others ranks d marks shows marked round low)))
    (cycle_is tasks c.requires.ranked table done others ranks d marks shows marked round is))
    c.paths_of.ensures
