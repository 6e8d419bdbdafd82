use Rattle.std.proofs.Common.{◌≡◌, ◌<◌, ◌≢◌, ◌⊎◌, ℕ, length, Contains, [], ◌++◌, sym, ap, subst, ◌∙◌, inl, inr, arith, refl, get_or, take, drop, max}
use Rattle.std.proofs.Math.ListN.{set}
use Rattle.std.proofs.lemmas.Bool.{cases_eq}
use Rattle.std.proofs.lemmas.List.{get_or_default, map-set, length-map, get_or-set_same, get_or-set_other}
use Rattle.std.proofs.Math.Seq.{take-length}
use Rattle.std.proofs.lemmas.List.Elements.{Contains-get_or}
use Rattle.gb_graph.specs.Order.{rows, row}
use Rattle.gb_graph.specs.Chains.{IsAfter, bit_in}
use Rattle.gb_graph.proofs.Rows.{rows_row}
use Rattle.gb_graph.proofs.Bits.{order_known, exists_before, prefix, written, takes_sound, takes_complete, one_more}
use Rattle.gb_graph.proofs.chains.chains_of.Goals as goal

pub bounds-after-task : goal.bounds-after-task
bounds-after-task c =
    let same : length (rows c.args.after.now) ≡ length c.args.after.now = length-map _ _ in
    let known = order_known c.requires.order _ (Contains-get_or c.args.order.now c.loop-task.task-index 0 c.loop-task-test.true) in
    omega (arith, known, same)

pub offset_bounds-after-task : goal.offset_bounds-after-task
offset_bounds-after-task c =
    let same : length (rows c.args.after.now) ≡ length c.args.after.now = length-map _ _ in
    let known = order_known c.requires.order _ (Contains-get_or c.args.order.now c.loop-task.task-index 0 c.loop-task-test.true) in
    omega (arith, known, same)

pub index-requires : goal.index-requires
index-requires c =
    let a = rows c.args.after.now in
    let order = c.args.order.now in
    let k = c.loop-task.task-index in
    let lt : k < length order = c.loop-task-test.true in
    let t = get_or order k 0 in
    let same : length a ≡ length c.args.after.now = length-map _ _ in
    let known : t < length a = order_known c.requires.order t (Contains-get_or order k 0 lt) in
    let in_after : t < length c.args.after.now = omega (arith, known, same) in
    let xs = c.as_slice-earlier.result.now in
    let taken : row a t ≡ xs = rows_row c.args.after.now t c.index-after-task.result in_after c.index-after-task.is ∙ sym c.as_slice-earlier.ensures.value in
    let m = c.loop-before.before-index in
    let b = get_or xs m 0 in
    let has : Contains (row a t) b = subst (λ ys. Contains ys b) (sym taken) (Contains-get_or xs m 0 c.loop-before-test.true) in
    let bk : b < length a = c.requires.tasks t b has in
    omega (arith, bk, same, c.loop-task.invariant.places)

pub join-requires : goal.join-requires
join-requires c =
    let a = rows c.args.after.now in
    let order = c.args.order.now in
    let k = c.loop-task.task-index in
    let lt : k < length order = c.loop-task-test.true in
    let t = get_or order k 0 in
    let same : length a ≡ length c.args.after.now = length-map _ _ in
    let known : t < length a = order_known c.requires.order t (Contains-get_or order k 0 lt) in
    let in_after : t < length c.args.after.now = omega (arith, known, same) in
    let xs = c.as_slice-earlier.result.now in
    let taken : row a t ≡ xs = rows_row c.args.after.now t c.index-after-task.result in_after c.index-after-task.is ∙ sym c.as_slice-earlier.ensures.value in
    let m = c.loop-before.before-index in
    let b = get_or xs m 0 in
    let has : Contains (row a t) b = subst (λ ys. Contains ys b) (sym taken) (Contains-get_or xs m 0 c.loop-before-test.true) in
    let bk : b < length a = c.requires.tasks t b has in
    let in_found : b < length c.loop-task.found.items = omega (arith, bk, same, c.loop-task.invariant.places) in
    let oe : row (rows c.loop-task.found.items) b ≡ c.deref.result.now = rows_row c.loop-task.found.items b c.index.result.now in_found c.index.ensures ∙ sym c.deref.ensures.value in
    let e = ap length oe in
    let w = c.loop-task.invariant.widths b (omega (arith, bk, same)) in
    let wide = c.loop-before.invariant.wide b (Contains-get_or xs m 0 c.loop-before-test.true) in
    omega (arith, w, e, c.deref_mut.ensures.len, wide)

pub mark-requires : goal.mark-requires
mark-requires c =
    let a = rows c.args.after.now in
    let order = c.args.order.now in
    let k = c.loop-task.task-index in
    let lt : k < length order = c.loop-task-test.true in
    let t = get_or order k 0 in
    let same : length a ≡ length c.args.after.now = length-map _ _ in
    let known : t < length a = order_known c.requires.order t (Contains-get_or order k 0 lt) in
    let in_after : t < length c.args.after.now = omega (arith, known, same) in
    let xs = c.as_slice-earlier.result.now in
    let taken : row a t ≡ xs = rows_row c.args.after.now t c.index-after-task.result in_after c.index-after-task.is ∙ sym c.as_slice-earlier.ensures.value in
    let m = c.loop-before.before-index in
    let b = get_or xs m 0 in
    let has : Contains (row a t) b = subst (λ ys. Contains ys b) (sym taken) (Contains-get_or xs m 0 c.loop-before-test.true) in
    let bk : b < length a = c.requires.tasks t b has in
    let wide = c.loop-before.invariant.wide b (Contains-get_or xs m 0 c.loop-before-test.true) in
    omega (arith, bk, same, c.deref_mut-in-loop-before.ensures.len, wide)

pub loop-before-preserved : goal.loop-before-preserved
loop-before-preserved c =
    let a = rows c.args.after.now in
    let order = c.args.order.now in
    let k = c.loop-task.task-index in
    let lt : k < length order = c.loop-task-test.true in
    let t = get_or order k 0 in
    let same : length a ≡ length c.args.after.now = length-map _ _ in
    let known : t < length a = order_known c.requires.order t (Contains-get_or order k 0 lt) in
    let in_after : t < length c.args.after.now = omega (arith, known, same) in
    let xs = c.as_slice-earlier.result.now in
    let taken : row a t ≡ xs = rows_row c.args.after.now t c.index-after-task.result in_after c.index-after-task.is ∙ sym c.as_slice-earlier.ensures.value in
    let m = c.loop-before.before-index in
    let b = get_or xs m 0 in
    let has : Contains (row a t) b = subst (λ ys. Contains ys b) (sym taken) (Contains-get_or xs m 0 c.loop-before-test.true) in
    let bk : b < length a = c.requires.tasks t b has in
    let in_found : b < length c.loop-task.found.items = omega (arith, bk, same, c.loop-task.invariant.places) in
    let oe : row (rows c.loop-task.found.items) b ≡ c.deref.result.now = rows_row c.loop-task.found.items b c.index.result.now in_found c.index.ensures ∙ sym c.deref.ensures.value in
    let r0 = c.loop-before.row.items in
    let r1 = c.join.new.row in
    let r2 = c.mark.new.row in
    let other = c.deref.result.now in
    let n = c.loop-before.row.len in
    let e1 : length r1 ≡ n = omega (arith, c.deref_mut.ensures.len) in
    let f1 = take n (r1 ++ drop (length r1) r0) in
    let w1 : f1 ≡ r1 = written n r1 (drop (length r1) r0) e1 in
    let e2 : length r2 ≡ n = omega (arith, c.deref_mut-in-loop-before.ensures.len) in
    let w2 : take n (r2 ++ drop (length r2) f1) ≡ r2 = written n r2 (drop (length r2) f1) e2 in
    let joined : (i : ℕ) → bit_in r1 i ≡ max (bit_in r0 i) (bit_in other i) = λ i. c.join.ensures.bits i ∙ ap (λ x. max (bit_in x i) (bit_in other i)) c.deref_mut.ensures.value in
    let kept : (i : ℕ) → i ≢ b → bit_in r2 i ≡ bit_in r1 i = λ i d. c.mark.ensures.other i d ∙ ap (λ x. bit_in x i) (c.deref_mut-in-loop-before.ensures.value ∙ w1) in
    let existing = exists_before c.requires.order k lt b has in
    let of : (p : ℕ) → bit_in other p ≡ 1 → IsAfter a b p = λ p h. c.loop-task.invariant.sound b p existing (subst (λ x. bit_in x p ≡ 1) (sym oe) h) in
    let to : (p : ℕ) → IsAfter a b p → bit_in other p ≡ 1 = λ p h. subst (λ x. bit_in x p ≡ 1) oe (c.loop-task.invariant.complete b p existing h) in
    record {
      most = c.loop-before.invariant.most;
      wide = c.loop-before.invariant.wide;
      sound = λ p h. takes_sound a t b r0 r1 r2 other has joined kept of c.loop-before.invariant.sound p (subst (λ x. bit_in x p ≡ 1) w2 h);
      complete = λ j p l h. subst (λ x. bit_in x p ≡ 1) (sym w2) (takes_complete a b m xs r0 r1 r2 other refl joined c.mark.ensures.same kept to c.loop-before.invariant.complete j p l h);
    }

pub index_mut-requires : goal.index_mut-requires
index_mut-requires c =
    let same : length (rows c.args.after.now) ≡ length c.args.after.now = length-map _ _ in
    let known = order_known c.requires.order _ (Contains-get_or c.args.order.now c.loop-task.task-index 0 c.loop-task-test.true) in
    omega (arith, known, same, c.loop-task.invariant.places)

pub loop-task-preserved : goal.loop-task-preserved
loop-task-preserved c =
    let a = rows c.args.after.now in
    let order = c.args.order.now in
    let k = c.loop-task.task-index in
    let lt : k < length order = c.loop-task-test.true in
    let t = get_or order k 0 in
    let same : length a ≡ length c.args.after.now = length-map _ _ in
    let known : t < length a = order_known c.requires.order t (Contains-get_or order k 0 lt) in
    let in_after : t < length c.args.after.now = omega (arith, known, same) in
    let xs = c.as_slice-earlier.result.now in
    let taken : row a t ≡ xs = rows_row c.args.after.now t c.index-after-task.result in_after c.index-after-task.is ∙ sym c.as_slice-earlier.ensures.value in
    let found = c.loop-task.found.items in
    let new = rows (set found t c.loop-before.row) in
    let bits = c.loop-before.row.items in
    let eq : new ≡ set (rows found) t bits = map-set (λ v. v.items) found t c.loop-before.row in
    let same_found : length (rows found) ≡ length found = length-map _ _ in
    let in_found : t < length (rows found) = omega (arith, in_after, same_found, c.loop-task.invariant.places) in
    let here : row new t ≡ bits = ap (λ x. row x t) eq ∙ get_or-set_same (rows found) t bits [] in_found in
    let other : (u : ℕ) → u ≢ t → row new u ≡ row (rows found) u = λ u n. ap (λ x. row x u) eq ∙ get_or-set_other (rows found) t u bits [] n in
    let wide : length bits ≡ c.loop-before.row.len = omega arith in
    record {
      places = c.loop-task.invariant.places;
      widths = λ u l. elim (cases_eq u t) [
        | inl e ↦
            let at : length (row new u) ≡ length bits = ap (λ v. length (row new v)) e ∙ ap length here in
            omega (arith, at, wide, c.loop-before.invariant.most)
        | inr n ↦ let at : length (row new u) ≡ length (row (rows found) u) = ap length (other u n) in omega (arith, at, c.loop-task.invariant.widths u l)
      ];
      sound = λ u p h g. elim (cases_eq u t) [
        | inl e ↦ subst (λ v. IsAfter a v p) (sym e) (c.loop-before.invariant.sound p (subst (λ x. bit_in x p ≡ 1) (ap (λ v. row new v) e ∙ here) g))
        | inr n ↦ elim (one_more order k u lt h) [
          | inl o ↦ c.loop-task.invariant.sound u p o (subst (λ x. bit_in x p ≡ 1) (other u n) g)
          | inr s ↦ absurd (n s)
        ]
      ];
      complete = λ u p h g. elim (cases_eq u t) [
        | inl e ↦
            let f = prefix (subst (λ v. IsAfter a v p) e g) in
            let q = subst (λ ys. Contains ys f.0) taken f.1 in
            let qe : get_or xs q.0 0 ≡ f.0 = get_or_default xs q.0 0 f.0 q.1 ∙ q.2 in
            let past : q.0 < c.loop-before.before-index = omega (arith, q.1, c.loop-before-test.false) in
            subst (λ x. bit_in x p ≡ 1) (sym (ap (λ v. row new v) e ∙ here)) (c.loop-before.invariant.complete q.0 p past (subst (λ v. (p ≡ v) ⊎ IsAfter a v p) (sym qe) f.2))
        | inr n ↦ elim (one_more order k u lt h) [
          | inl o ↦ subst (λ x. bit_in x p ≡ 1) (sym (other u n)) (c.loop-task.invariant.complete u p o g)
          | inr s ↦ absurd (n s)
        ]
      ];
    }

pub returns : goal.returns
returns c = record {
  chains = λ t p h.
      let e : length c.args.order.now ≡ c.loop-task.task-index = omega (arith, c.loop-task-test.false) in
      let whole : c.args.order.now ≡ take c.loop-task.task-index c.args.order.now = sym (take-length c.args.order.now) ∙ ap (λ k. take k c.args.order.now) e in
      let g = subst (λ xs. Contains xs t) whole h in
      (c.loop-task.invariant.sound t p g, c.loop-task.invariant.complete t p g);
}
