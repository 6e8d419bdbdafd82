use Rattle.std.proofs.Common.{◌≡◌, ◌<◌, ◌++◌, ℕ, [], ◌∷◌, length, get_or, take, Contains, sym, ap, subst, ◌∙◌, arith, inl, inr}
use Rattle.std.proofs.Math.ListN.{set}
use Rattle.std.proofs.Math.Seq.{take-length}
use Rattle.std.proofs.lemmas.List.{get_or_default, length-map, map-append}
use Rattle.std.proofs.lemmas.List.Elements.{Contains-get_or}
use Rattle.gb_graph.specs.Order.{rows, row}
use Rattle.gb_graph.proofs.Edges.{take_grows}
use Rattle.gb_graph.proofs.Keeping.{row_kept, row_has, row_only, row_more}
use Rattle.gb_graph.proofs.Rows.{rows_push}
use Rattle.gb_graph.proofs.ranked.rows_of.Goals as goal

pub loop-init : goal.loop-init
loop-init c = record { each = c.new-after.ensures.len; empty = λ k. ap (λ vs. row (rows vs) k) c.new-after.ensures.items }

pub loop-preserved : goal.loop-preserved
loop-preserved c = record {
  each = omega (arith, c.in_ok-push.ensures.len, c.loop.invariant.each);
  empty = λ k.
      ap (λ vs. row (rows vs) k) c.in_ok-push.ensures.items
      ∙ ap (λ ws. row ws k) (map-append (λ v. v.items) c.loop.after.items (c.new.result ∷ []))
      ∙ ap (λ xs. row (rows c.loop.after.items ++ xs ∷ []) k) c.new.ensures.items
      ∙ row_more (rows c.loop.after.items) k c.loop.invariant.empty;
}

pub loop-task-init : goal.loop-task-init
loop-task-init c = record {
  each = omega (arith, c.loop.invariant.each, c.loop-test.false, c.loop.auto.counter-end);
  reported = λ task before. (
    λ h. let lt = (subst (λ xs. Contains xs before) (c.loop.invariant.empty task) h).1 in absurd (omega (arith, lt)),
    λ h. absurd (omega (arith, h.1)),
  );
}

pub index_mut-requires : goal.index_mut-requires
index_mut-requires c =
    let edges = c.args.edges.now in
    let lt = c.requires _ _ (Contains-get_or edges c.loop-task.task-index (0, 0) c.loop-task-test.true) in
    omega (arith, lt, c.loop-task.invariant.each)

pub loop-task-preserved : goal.loop-task-preserved
loop-task-preserved c =
    let edges = c.args.edges.now in
    let i = c.loop-task.task-index in
    let lt = c.loop-task-test.true in
    let edge : ℕ × ℕ = get_or edges i (0, 0) in
    let after = c.loop-task.after.items in
    let w = rows after in
    let known = c.requires edge.0 edge.1 (Contains-get_or edges i (0, 0) lt) in
    let fits : edge.0 < length after = omega (arith, known, c.loop-task.invariant.each) in
    let same : length w ≡ length after = length-map after (λ v. v.items) in
    let within : edge.0 < length w = omega (arith, fits, same) in
    let pushed : rows (set after edge.0 c.push-in-loop-task.new.self) ≡ set w edge.0 (row w edge.0 ++ edge.1 ∷ []) =
    rows_push after edge.0 c.index_mut.result.now c.push-in-loop-task.new.self edge.1 fits c.index_mut.ensures.value c.in_ok-push-2.ensures.items in
    record {
      each = c.loop-task.invariant.each;
      reported = λ task before.
          let pair : ℕ × ℕ = (task, before) in
          let grows = take_grows edges i edge pair lt (get_or_default edges i (0, 0) edge lt) in (
            λ h. elim (row_only w edge.0 edge.1 task before within (subst (λ ws. Contains (row ws task) before) pushed h)) [
              | inl old ↦ grows.1 (inl ((c.loop-task.invariant.reported task before).0 old))
              | inr new ↦ grows.1 (inr (λ j. (sym new.0 j, sym new.1 j)))
            ],
            λ h. subst (λ ws. Contains (row ws task) before) (sym pushed) (elim (grows.0 h) [
              | inl old ↦ row_kept w edge.0 edge.1 task before within ((c.loop-task.invariant.reported task before).1 old)
              | inr e ↦ subst (λ (p : ℕ × ℕ). Contains (row (set w edge.0 (row w edge.0 ++ edge.1 ∷ [])) p.0) p.1) e (row_has w edge.0 edge.1 within)
            ]),
          );
    }

pub returns : goal.returns
returns c =
    let edges = c.args.edges.now in
    let e : length edges ≡ c.loop-task.task-index = omega (arith, c.loop-task-test.false) in
    let whole : take c.loop-task.task-index edges ≡ edges = ap (λ n. take n edges) (sym e) ∙ take-length edges in
    let same : length (rows c.loop-task.after.items) ≡ length c.loop-task.after.items = length-map c.loop-task.after.items (λ v. v.items) in
    record {
      each = omega (arith, same, c.loop-task.invariant.each);
      reported = λ task before. (
        λ h. subst (λ es. Contains es (task, before)) whole ((c.loop-task.invariant.reported task before).0 h),
        λ h. (c.loop-task.invariant.reported task before).1 (subst (λ es. Contains es (task, before)) (sym whole) h),
      );
    }
