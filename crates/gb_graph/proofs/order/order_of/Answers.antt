use Rattle.std.proofs.Common.{◌≡◌, ◌<◌, ◌≤◌, ◌+◌, length, Contains, true, [], ◌∷◌, ◌++◌, sym, ap, subst, ◌∙◌, inl, inr, arith, get_or}
use Rattle.std.specs.BTreeSet.{contains}
use Rattle.std.specs.Ordering.{nat_cmp, is_eq}
use Rattle.std.proofs.Math.ListN.{set}
use Rattle.std.proofs.lemmas.Bool.{cases_eq}
use Rattle.std.proofs.lemmas.List.{get_or_default, map-set, length-map}
use Rattle.gb_graph.specs.Order.{rows, row, InOrder, goes_on, begins}
use Rattle.gb_graph.specs.Settled.{IsSettled, Keeps, ContainsFrom}
use Rattle.gb_graph.proofs.Rows.{rows_row}
use Rattle.gb_graph.proofs.Keeping.{settles, is_next, places_it, is_whole, fewer, loosen, other_at, not_above, was_there, some_key, none_left}
use Rattle.gb_graph.proofs.order.order_of.Goals as goal

pub loop-task-preserved : goal.loop-task-preserved
loop-task-preserved c =
    let a = rows c.args.after.now in
    let t = c.loop-task.task in
    let settled = subst (λ s. IsSettled a s (rows c.loop-task.waiting.items) (rows c.settle.new.waiting.items) (contains nat_cmp c.loop-task.ready) (contains nat_cmp c.settle.new.ready) t)
    c.deref.ensures.value c.in_ok-settle.ensures.settled in
    record {
      marks = c.loop-task.invariant.marks;
      cursors = c.loop-task.invariant.cursors;
      places = c.in_ok-settle.ensures.places;
      keeps = settles a c.in_ok-exists.exists.items (rows c.loop-task.waiting.items) (rows c.settle.new.waiting.items) (contains nat_cmp c.loop-task.ready) (contains nat_cmp c.settle.new.ready)
          c.new-order.result.items (λ u. (t ≤ u) × (u < length c.args.after.now)) (λ u. (t + 1 ≤ u) × (u < length c.args.after.now)) t
          c.loop-task.invariant.keeps (omega arith, c.loop-task-test.true)
          (λ u h. elim (cases_eq u t) [ inl e ↦ inl e | inr n ↦ inr (omega (arith, h.0, n), h.1) ])
          (λ u h. (omega (arith, h.0), h.1)) c.requires.tasks settled;
    }

pub loop-task-2-init : goal.loop-task-2-init
loop-task-2-init c =
    let t = c.loop-task.task in
    record {
      marks = c.loop-task.invariant.marks;
      cursors = c.loop-task.invariant.cursors;
      places = c.loop-task.invariant.places;
      keeps = loosen _ _ _ _ _ (λ u. (t ≤ u) × (u < length c.args.after.now)) (λ _. ⊥) c.loop-task.invariant.keeps (λ u h. omega (arith, h.0, h.1, c.loop-task-test.false)) (λ u e. absurd e);
      in_order = subst (InOrder (rows c.args.after.now)) (sym c.new-order.ensures.items) begins;
    }

pub loop-waiter-init : goal.loop-waiter-init
loop-waiter-init c =
    let a = rows c.args.after.now in
    let l = c.loop-task-2 in
    let t = c.in-Some.task in
    let updates = c.in-Some.ensures.updates in
    let known = l.invariant.keeps.ready_known t c.in-Some.ensures.member in
    let same : length (rows l.waiting.items) ≡ length l.waiting.items = length-map _ _ in
    let lt : t < length l.waiting.items = omega (arith, known, l.invariant.keeps.places, same) in
    let k = places_it a l.exists.items (rows l.waiting.items) (contains nat_cmp l.ready) (contains nat_cmp c.pop_first.new.self) l.order.items (λ _. ⊥) t l.invariant.keeps
    c.in-Some.ensures.member (λ u e. e) updates.1
    (λ u h. was_there (is_eq (nat_cmp t u)) (contains nat_cmp l.ready u) _ (updates.0 u) h)
    (λ u h. elim (cases_eq u t) [ inl e ↦ inl e | inr n ↦ inr (updates.2 u (other_at t u n) ∙ h) ]) in
    let emptied : rows (set l.waiting.items t c.replace-waiters.new.dest) ≡ set (rows l.waiting.items) t [] =
    map-set (λ v. v.items) l.waiting.items t c.replace-waiters.new.dest ∙ ap (set (rows l.waiting.items) t) (ap (λ v. v.items) c.replace-waiters.ensures.after ∙ c.new-in-Some.ensures.items) in
    let taken : row (rows l.waiting.items) t ≡ c.deref-waiter-items.result.now =
    rows_row l.waiting.items t c.index_mut-in-Some-2.result.now lt c.index_mut-in-Some-2.ensures.value
    ∙ sym (ap (λ v. v.items) c.replace-waiters.ensures.value) ∙ sym c.deref-waiter-items.ensures.value in
    let k2 = loosen _ _ _ _ _ (Contains (row (rows l.waiting.items) t)) (ContainsFrom 0 c.deref-waiter-items.result.now) k
    (λ u h. let g = subst (λ xs. Contains xs u) taken h in (g.0, omega arith, g.1, g.2))
    (λ u h. subst (λ xs. Contains xs u) (sym taken) (h.0, h.2, h.3)) in
    record {
      marks = l.invariant.marks;
      cursors = l.invariant.cursors;
      places = l.invariant.places;
      keeps = subst (λ o. Keeps a (set l.exists.items t true) (rows (set l.waiting.items t c.replace-waiters.new.dest)) (contains nat_cmp c.pop_first.new.self) o (ContainsFrom 0 c.deref-waiter-items.result.now))
          (sym c.in_ok-push-2.ensures.items)
          (subst (λ w. Keeps a (set l.exists.items t true) w (contains nat_cmp c.pop_first.new.self) (l.order.items ++ t ∷ []) (ContainsFrom 0 c.deref-waiter-items.result.now)) (sym emptied) k2);
    }

pub settle-requires-in-loop-waiter-clause-known : goal.settle-requires-in-loop-waiter-clause-known
settle-requires-in-loop-waiter-clause-known c =
    let i = c.loop-waiter.waiter-index in
    let xs = c.deref-waiter-items.result.now in
    let same : length (rows c.args.after.now) ≡ length c.args.after.now = length-map _ _ in
    let lt : i < length xs = c.loop-waiter-test.true in
    let known = c.loop-waiter.invariant.keeps.loose_known (get_or xs i 0) (i, omega arith, lt, get_or_default xs i (get_or xs i 0) 0 lt) in
    omega (arith, known, same)

pub loop-waiter-preserved : goal.loop-waiter-preserved
loop-waiter-preserved c =
    let a = rows c.args.after.now in
    let l = c.loop-waiter in
    let n = c.settle-in-loop-waiter.new in
    let i = l.waiter-index in
    let xs = c.deref-waiter-items.result.now in
    let lt : i < length xs = c.loop-waiter-test.true in
    let t = get_or xs i 0 in
    let exists = set c.loop-task-2.exists.items c.in-Some.task true in
    let settled = subst (λ s. IsSettled a s (rows l.waiting.items) (rows n.waiting.items) (contains nat_cmp l.ready) (contains nat_cmp n.ready) t)
    c.deref-in-loop-waiter.ensures.value c.in_ok-settle-2.ensures.settled in
    record {
      marks = l.invariant.marks;
      cursors = l.invariant.cursors;
      places = c.in_ok-settle-2.ensures.places;
      keeps = settles a exists (rows l.waiting.items) (rows n.waiting.items) (contains nat_cmp l.ready) (contains nat_cmp n.ready)
          c.push-in-Some.new.self.items (ContainsFrom i xs) (ContainsFrom (i + 1) xs) t
          l.invariant.keeps (i, omega arith, lt, get_or_default xs i t 0 lt)
          (λ u h. elim (cases_eq h.0 i) [
            | inl e ↦ inl (sym h.3 ∙ ap (λ k. get_or xs k u) e ∙ get_or_default xs i u 0 lt)
            | inr d ↦ inr (h.0, omega (arith, h.1, d), h.2, h.3)
          ])
          (λ u h. (h.0, omega (arith, h.1), h.2, h.3)) c.requires.tasks settled;
    }

pub loop-task-2-smaller : goal.loop-task-2-smaller
loop-task-2-smaller c =
    let l = c.loop-task-2 in
    let t = c.in-Some.task in
    let known = l.invariant.keeps.ready_known t c.in-Some.ensures.member in
    let lt : t < length l.exists.items = omega (arith, known, l.invariant.keeps.marks) in
    fewer l.exists.items t lt (l.invariant.keeps.ready_waits t c.in-Some.ensures.member)

pub loop-task-2-preserved : goal.loop-task-2-preserved
loop-task-2-preserved c =
    let a = rows c.args.after.now in
    let l = c.loop-task-2 in
    let t = c.in-Some.task in
    let next = is_next a l.exists.items (rows l.waiting.items) (contains nat_cmp l.ready) (contains nat_cmp c.pop_first.new.self) l.order.items (λ _. ⊥) t l.invariant.keeps
    c.in-Some.ensures.member (λ u e. e) (λ u h. not_above t u (c.in-Some.ensures.least u h)) in
    record {
      marks = l.invariant.marks;
      cursors = c.loop-waiter.invariant.cursors;
      places = c.loop-waiter.invariant.places;
      keeps = loosen _ _ _ _ _ (ContainsFrom c.loop-waiter.waiter-index c.deref-waiter-items.result.now) (λ _. ⊥) c.loop-waiter.invariant.keeps
          (λ u h. omega (arith, h.1, h.2, c.loop-waiter-test.false)) (λ u e. absurd e);
      in_order = subst (InOrder a) (sym c.in_ok-push-2.ensures.items) (goes_on l.invariant.in_order next);
    }

pub returns : goal.returns
returns c =
    let l = c.loop-task-2 in
    record {
      order = record {
        in_order = l.invariant.in_order;
        whole = is_whole (rows c.args.after.now) l.exists.items (rows l.waiting.items) (contains nat_cmp l.ready) l.order.items (λ _. ⊥) l.invariant.keeps (λ u e. e)
            (λ u h. none_left c.pop_first.result (c.pop_first.ensures.variant.1 (some_key _ l.ready.keys h)) c.in_default.not-Some);
      };
    }

pub index_mut-requires-in-loop-waiter : goal.index_mut-requires-in-loop-waiter
index_mut-requires-in-loop-waiter c =
    let i = c.loop-waiter.waiter-index in
    let xs = c.deref-waiter-items.result.now in
    let same : length (rows c.args.after.now) ≡ length c.args.after.now = length-map _ _ in
    let lt : i < length xs = c.loop-waiter-test.true in
    let known = c.loop-waiter.invariant.keeps.loose_known (get_or xs i 0) (i, omega arith, lt, get_or_default xs i (get_or xs i 0) 0 lt) in
    omega (arith, known, same, c.loop-waiter.invariant.cursors)
