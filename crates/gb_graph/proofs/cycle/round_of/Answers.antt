use Rattle.std.proofs.Common.{◌≡◌, ◌++◌, ℕ, false, Contains, MatchOption, refl, sym, ap, subst, ◌∙◌, arith, inl}
use Rattle.gb_plan.proofs.Same.{In}
use Rattle.gb_graph.specs.Order.{rows}
use Rattle.gb_graph.specs.Settled.{is_marked}
use Rattle.gb_graph.specs.Cycle.{IsLeastNumber, IsRound}
use Rattle.gb_graph.proofs.Numbers.{in_of, of_in, in_back}
use Rattle.gb_graph.proofs.Rounds.{least_or, round_is, exists_within}
use Rattle.gb_graph.proofs.cycle.round_of.Goals as goal

pub trail_of-requires : goal.trail_of-requires
trail_of-requires c =
    let least = least_or c.args.tasks.now c.args.numbers.now c.args.marks.now c.least_of.result c.least_of.ensures c.requires.some.0 c.requires.some.1 c.requires.some.2 c.unwrap_or-start.result c.unwrap_or-start.ensures in
    record {
      known = c.requires.known;
      rows = c.requires.rows;
      each = c.requires.each;
      start = least.marked;
      goes_on = c.requires.goes_on;
    }

pub cut-requires : goal.cut-requires
cut-requires c = subst (λ ks. Contains ks c.in_ok-trail.back) (sym c.as_slice.ensures.value) c.in_ok-trail.ensures.comes_back

pub least_of-requires-2-clause-known : goal.least_of-requires-2-clause-known
least_of-requires-2-clause-known c = λ k h.
    let t = c.in_ok-trail.ensures in
    let round = c.in_ok-round.round.items in
    let in_round = subst (λ ks. Contains ks k) c.as_slice-2.ensures.value h in
    let in_trail : Contains c.in_ok-trail.trail.items k =
    subst (λ ks. Contains ks k) (sym (sym c.as_slice.ensures.value ∙ c.in_ok-round.ensures.0)) (of_in k (c.in_ok-round.field-0-0.items ++ round) (in_back k c.in_ok-round.field-0-0.items round (in_of round k in_round))) in
    let lt = exists_within c.args.marks.now k (t.marked k in_trail) in
    omega (arith, lt, c.requires.each)

pub cut-requires-2 : goal.cut-requires-2
cut-requires-2 c =
    let t = c.in_ok-trail.ensures in
    let round = c.in_ok-round.round.items in
    let back = c.in_ok-trail.back in
    let begins : Contains round back = of_in back round (subst (λ ks. In back ks) (sym c.in_ok-round.ensures.1.1) (inl refl)) in
    let least = least_or c.args.tasks.now round c.args.marks.now c.least_of-2.result
    (subst (λ ks. MatchOption c.least_of-2.result ((k : ℕ) → Contains ks k → is_marked c.args.marks.now k ≡ false) (λ k. IsLeastNumber c.args.tasks.now ks c.args.marks.now k)) c.as_slice-2.ensures.value c.least_of-2.ensures)
    back begins (t.marked back t.comes_back) c.unwrap_or-first.result c.unwrap_or-first.ensures in
    subst (λ ks. Contains ks c.unwrap_or-first.result) (sym c.as_slice-3.ensures.value) least.is_in

pub returns : goal.returns
returns c =
    let tasks = c.args.tasks.now in
    let marks = c.args.marks.now in
    let t = c.in_ok-trail.ensures in
    let trail = c.in_ok-trail.trail.items in
    let prefix = c.in_ok-round.field-0-0.items in
    let round = c.in_ok-round.round.items in
    let back = c.in_ok-trail.back in
    let end = c.in_ok-end.end.items in
    let most = c.in_ok-end.cycle.items in
    let first = c.unwrap_or-first.result in
    let begins : Contains round back = of_in back round (subst (λ ks. In back ks) (sym c.in_ok-round.ensures.1.1) (inl refl)) in
    let start_least = least_or tasks c.args.numbers.now marks c.least_of.result c.least_of.ensures c.requires.some.0 c.requires.some.1 c.requires.some.2 c.unwrap_or-start.result c.unwrap_or-start.ensures in
    let least = least_or tasks round marks c.least_of-2.result
    (subst (λ ks. MatchOption c.least_of-2.result ((k : ℕ) → Contains ks k → is_marked marks k ≡ false) (λ k. IsLeastNumber tasks ks marks k)) c.as_slice-2.ensures.value c.least_of-2.ensures)
    back begins (t.marked back t.comes_back) first c.unwrap_or-first.ensures in
    subst (IsRound tasks (rows c.args.after.now) marks c.args.numbers.now) (sym (c.in_ok-extend_from_slice.ensures.items ∙ ap (λ e. most ++ e) c.as_slice-4.ensures.value))
    (round_is tasks (rows c.args.after.now) marks c.args.numbers.now c.unwrap_or-start.result back first trail prefix round end most c.in_ok-round.ensures.1.0 c.in_ok-end.ensures.1.0
    start_least t (sym c.as_slice.ensures.value ∙ c.in_ok-round.ensures.0) c.in_ok-round.ensures.1.1 least (sym c.as_slice-3.ensures.value ∙ c.in_ok-end.ensures.0) c.in_ok-end.ensures.1.1)
