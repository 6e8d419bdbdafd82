-- The tables stay correct for the order, step by step.
use Rattle.std.proofs.Common.{◌≡◌, ◌<◌, ◌≤◌, ◌≢◌, ℕ, zero, suc, Bool, true, false, List, [], ◌∷◌, ◌++◌, length, get_or, ap, sym, subst, ◌∙◌, ◌⊎◌, inl, inr, Contains, refl, arith, cond, nat_lt, ◌==◌, Less, Equal, Greater, Option, None, Some, IsSome}
use Rattle.std.proofs.lemmas.List.{get_or-set_same, get_or-set_other}
use Rattle.std.proofs.Math.ListN.{set, length-set}
use Rattle.std.proofs.lemmas.Bool.{cases_eq, cases_Bool, false≢true, eqb-true}
use Rattle.std.proofs.lemmas.Map.Keys.{le_from_not_gt}
use Rattle.std.proofs.lemmas.List.Elements.{Contains-append_left, Contains-append_cases, Contains-push}
use Rattle.std.specs.List.{list_any}
use Rattle.std.specs.Ordering.{nat_cmp, is_eq, is_gt}
use Rattle.gb_graph.specs.Order.{row, IsReady, IsNext, AreTasks}
use Rattle.gb_graph.specs.Settled.{Keeps, IsSettled, IsPutReady, IsPutWaiting, is_marked, missing}

pub one_contained : (t u : ℕ) → Contains (t ∷ []) u → u ≡ t
one_contained t u h = let z : h.0 ≡ 0 = omega (arith, h.1) in sym (subst (λ k. get_or (t ∷ []) k u ≡ u) z h.2)

-- ---- Marks

pub mark_kept : (exists : List Bool) (t u : ℕ) → t < length exists → is_marked exists u ≡ true → is_marked (set exists t true) u ≡ true
mark_kept exists t u lt h = elim (cases_eq u t) [
  | inl e ↦ subst (λ k. is_marked (set exists t true) k ≡ true) (sym e) (get_or-set_same exists t true false lt)
  | inr n ↦ get_or-set_other exists t u true false n ∙ h
]

pub mark_other : (exists : List Bool) (t u : ℕ) → u ≢ t → is_marked (set exists t true) u ≡ is_marked exists u
mark_other exists t u n = get_or-set_other exists t u true false n

pub not_both : {b : Bool} {A : Type 0} → b ≡ true → b ≡ false → A
not_both p q = absurd (false≢true (sym q ∙ p))

-- ---- Rows that grow and are emptied

pub row_kept : (w : List (List ℕ)) (m t p u : ℕ) → m < length w → Contains (row w p) u → Contains (row (set w m (row w m ++ t ∷ [])) p) u
row_kept w m t p u lt h = elim (cases_eq p m) [
  | inl e ↦ subst (λ k. Contains (row (set w m (row w m ++ t ∷ [])) k) u) (sym e)
      (subst (λ xs. Contains xs u) (sym (get_or-set_same w m (row w m ++ t ∷ []) [] lt)) (Contains-append_left (row w m) (t ∷ []) u (subst (λ k. Contains (row w k) u) e h)))
  | inr n ↦ subst (λ xs. Contains xs u) (sym (get_or-set_other w m p (row w m ++ t ∷ []) [] n)) h
]

pub row_has : (w : List (List ℕ)) (m t : ℕ) → m < length w → Contains (row (set w m (row w m ++ t ∷ [])) m) t
row_has w m t lt = subst (λ xs. Contains xs t) (sym (get_or-set_same w m (row w m ++ t ∷ []) [] lt)) (Contains-push (row w m) t)

pub row_only : (w : List (List ℕ)) (m t p u : ℕ) → m < length w → Contains (row (set w m (row w m ++ t ∷ [])) p) u → Contains (row w p) u ⊎ ((p ≡ m) × (u ≡ t))
row_only w m t p u lt h = elim (cases_eq p m) [
  | inl e ↦
      let here = subst (λ k. Contains (row (set w m (row w m ++ t ∷ [])) k) u) e h in
      elim (Contains-append_cases (row w m) (t ∷ []) u (subst (λ xs. Contains xs u) (get_or-set_same w m (row w m ++ t ∷ []) [] lt) here)) [
        | inl old ↦ inl (subst (λ k. Contains (row w k) u) (sym e) old)
        | inr new ↦ inr (e, one_contained t u new)
      ]
  | inr n ↦ inl (subst (λ xs. Contains xs u) (get_or-set_other w m p (row w m ++ t ∷ []) [] n) h)
]

pub row_emptied : (w : List (List ℕ)) (t p u : ℕ) → t < length w → Contains (row (set w t []) p) u → (p ≢ t) × Contains (row w p) u
row_emptied w t p u lt h = elim (cases_eq p t) [
  | inl e ↦
      let here = subst (λ xs. Contains xs u) (get_or-set_same w t [] [] lt) (subst (λ k. Contains (row (set w t []) k) u) e h) in
      absurd (omega (arith, here.1))
  | inr n ↦ (n, subst (λ xs. Contains xs u) (get_or-set_other w t p [] [] n) h)
]

-- ---- A loose task is placed where it belongs

module _ (after : List (List ℕ)) (exists : List Bool) (w w' : List (List ℕ)) (r r' : ℕ → Bool) (order : List ℕ) (loose loose' : ℕ → Type 0) (t : ℕ)
    (k : Keeps after exists w r order loose) (is : loose t) (split : (u : ℕ) → loose u → (u ≡ t) ⊎ loose' u) (less : (u : ℕ) → loose' u → loose u) where
  pub settles_ready : IsPutReady after exists w w' r r' t → Keeps after exists w' r' order loose'
  settles_ready s = record {
    marks = k.marks;
    places = ap length s.same ∙ k.places;
    marked = k.marked;
    existing = k.existing;
    closed = k.closed;
    ready_known = λ u h. elim (s.only u h) [ inl e ↦ subst (λ v. v < length after) (sym e) (k.loose_known t is) | inr g ↦ k.ready_known u g ];
    ready_waits = λ u h. elim (s.only u h) [ inl e ↦ subst (λ v. is_marked exists v ≡ false) (sym e) (k.loose_waits t is) | inr g ↦ k.ready_waits u g ];
    ready_after = λ u p h c. elim (s.only u h) [ inl e ↦ s.all_exist p (subst (λ v. Contains (row after v) p) e c) | inr g ↦ k.ready_after u p g c ];
    waits_known = λ p u h. k.waits_known p u (subst (λ x. Contains (row x p) u) s.same h);
    waits_after = λ p u h. k.waits_after p u (subst (λ x. Contains (row x p) u) s.same h);
    loose_known = λ u l. k.loose_known u (less u l);
    loose_waits = λ u l. k.loose_waits u (less u l);
    somewhere = λ u known lacks. elim (k.somewhere u known lacks) [
      | inl l ↦ elim (split u l) [ inl e ↦ inr (inl (subst (λ v. r' v ≡ true) (sym e) s.put)) | inr l' ↦ inl l' ]
      | inr (inl g) ↦ inr (inl (s.kept u g))
      | inr (inr q) ↦ inr (inr (q.0, q.1, q.2, subst (λ x. Contains (row x q.0) u) (sym s.same) q.3))
    ];
  }

  pub settles_waiting : AreTasks after → IsPutWaiting after exists w w' r r' t → Keeps after exists w' r' order loose'
  settles_waiting tasks s =
      let m = s.before in
      let lt : m < length w = omega (arith, tasks t m s.comes_after, k.places) in
      record {
        marks = k.marks;
        places = ap length s.put ∙ length-set w m (row w m ++ t ∷ []) ∙ k.places;
        marked = k.marked;
        existing = k.existing;
        closed = k.closed;
        ready_known = λ u h. k.ready_known u (sym (s.same u) ∙ h);
        ready_waits = λ u h. k.ready_waits u (sym (s.same u) ∙ h);
        ready_after = λ u p h c. k.ready_after u p (sym (s.same u) ∙ h) c;
        waits_known = λ p u h. elim (row_only w m t p u lt (subst (λ x. Contains (row x p) u) s.put h)) [ inl o ↦ k.waits_known p u o | inr e ↦ subst (λ v. v < length after) (sym e.1) (k.loose_known t is) ];
        waits_after = λ p u h. elim (row_only w m t p u lt (subst (λ x. Contains (row x p) u) s.put h)) [
          | inl o ↦ k.waits_after p u o
          | inr e ↦ subst (λ v. Contains (row after v) p) (sym e.1) (subst (λ v. Contains (row after t) v) (sym e.0) s.comes_after)
        ];
        loose_known = λ u l. k.loose_known u (less u l);
        loose_waits = λ u l. k.loose_waits u (less u l);
        somewhere = λ u known lacks. elim (k.somewhere u known lacks) [
          | inl l ↦ elim (split u l) [
            | inl e ↦ inr (inr (
              m,
              subst (λ v. Contains (row after v) m) (sym e) s.comes_after,
              s.missing,
              subst (λ x. Contains (row x m) u) (sym s.put) (subst (λ v. Contains (row (set w m (row w m ++ t ∷ [])) m) v) (sym e) (row_has w m t lt)),
            ))
            | inr l' ↦ inl l'
          ]
          | inr (inl g) ↦ inr (inl (s.same u ∙ g))
          | inr (inr q) ↦ inr (inr (q.0, q.1, q.2, subst (λ x. Contains (row x q.0) u) (sym s.put) (row_kept w m t q.0 u lt q.3)))
        ];
      }

  pub settles : AreTasks after → IsSettled after exists w w' r r' t → Keeps after exists w' r' order loose'
  settles tasks (inl s) = settles_ready s
  settles tasks (inr s) = settles_waiting tasks s

-- ---- A ready task is placed

module _ (after : List (List ℕ)) (exists : List Bool) (w : List (List ℕ)) (r r' : ℕ → Bool) (order : List ℕ) (none : ℕ → Type 0) (t : ℕ)
    (k : Keeps after exists w r order none) (is : r t ≡ true) (empty : (u : ℕ) → none u → ⊥) where
  pub is_next : ((u : ℕ) → r u ≡ true → t ≤ u) → IsNext after order t
  is_next least = record {
    known = k.ready_known t is;
    waits = λ h. not_both (k.marked t h) (k.ready_waits t is);
    ready = λ p c. k.existing p (k.ready_after t p is c);
    least = λ u known absent ready. elim (cases_Bool (is_marked exists u)) [
      | inl s ↦ absurd (absent (k.existing u s))
      | inr m ↦ elim (k.somewhere u known m) [
        | inl l ↦ absurd (empty u l)
        | inr (inl g) ↦ least u g
        | inr (inr q) ↦ not_both (k.marked q.0 (ready q.0 q.1)) q.2
      ]
    ];
  }

  pub places_it : r' t ≡ false → ((u : ℕ) → r' u ≡ true → r u ≡ true) → ((u : ℕ) → r u ≡ true → (u ≡ t) ⊎ (r' u ≡ true))
      → Keeps after (set exists t true) (set w t []) r' (order ++ t ∷ []) (Contains (row w t))
  places_it gone back split =
      let lt : t < length exists = omega (arith, k.ready_known t is, k.marks) in
      let ltw : t < length w = omega (arith, k.ready_known t is, k.places) in
      let other : (u : ℕ) → Contains (row w t) u → u ≢ t = λ u h e. not_both (k.ready_after t t is (subst (λ v. Contains (row after v) t) e (k.waits_after t u h))) (k.ready_waits t is) in
      let not_t : (u : ℕ) → is_marked (set exists t true) u ≡ false → u ≢ t = λ u h e. not_both (get_or-set_same exists t true false lt) (subst (λ v. is_marked (set exists t true) v ≡ false) e h) in
      record {
        marks = length-set exists t true ∙ k.marks;
        places = length-set w t [] ∙ k.places;
        marked = λ u h. elim (Contains-append_cases order (t ∷ []) u h) [
          | inl o ↦ mark_kept exists t u lt (k.marked u o)
          | inr n ↦ subst (λ v. is_marked (set exists t true) v ≡ true) (sym (one_contained t u n)) (get_or-set_same exists t true false lt)
        ];
        existing = λ u h. elim (cases_eq u t) [
          | inl e ↦ subst (λ v. Contains (order ++ t ∷ []) v) (sym e) (Contains-push order t)
          | inr n ↦ Contains-append_left order (t ∷ []) u (k.existing u (sym (mark_other exists t u n) ∙ h))
        ];
        closed = λ u p h c. elim (cases_eq u t) [
          | inl e ↦ mark_kept exists t p lt (k.ready_after t p is (subst (λ v. Contains (row after v) p) e c))
          | inr n ↦ mark_kept exists t p lt (k.closed u p (sym (mark_other exists t u n) ∙ h) c)
        ];
        ready_known = λ u h. k.ready_known u (back u h);
        ready_waits = λ u h. mark_other exists t u (λ e. not_both h (subst (λ v. r' v ≡ false) (sym e) gone)) ∙ k.ready_waits u (back u h);
        ready_after = λ u p h c. mark_kept exists t p lt (k.ready_after u p (back u h) c);
        waits_known = λ p u h. k.waits_known p u (row_emptied w t p u ltw h).1;
        waits_after = λ p u h. k.waits_after p u (row_emptied w t p u ltw h).1;
        loose_known = λ u l. k.waits_known t u l;
        loose_waits = λ u l. mark_other exists t u (other u l) ∙ elim (cases_Bool (is_marked exists u)) [
          | inl s ↦ not_both (k.closed u t s (k.waits_after t u l)) (k.ready_waits t is)
          | inr m ↦ m
        ];
        somewhere = λ u known h.
            let n = not_t u h in
            elim (k.somewhere u known (sym (mark_other exists t u n) ∙ h)) [
              | inl l ↦ absurd (empty u l)
              | inr (inl g) ↦ elim (split u g) [ inl e ↦ absurd (n e) | inr g' ↦ inr (inl g') ]
              | inr (inr q) ↦ elim (cases_eq q.0 t) [
                | inl e ↦ inl (subst (λ v. Contains (row w v) u) e q.3)
                | inr np ↦ inr (inr (q.0, q.1, mark_other exists t q.0 np ∙ q.2, subst (λ xs. Contains xs u) (sym (get_or-set_other w t q.0 [] [] np)) q.3))
              ]
            ];
      }

-- ---- Nothing is ready

pub is_whole : (after : List (List ℕ)) (exists : List Bool) (w : List (List ℕ)) (r : ℕ → Bool) (order : List ℕ) (none : ℕ → Type 0) → Keeps after exists w r order none
    → ((u : ℕ) → none u → ⊥) → ((u : ℕ) → r u ≡ true → ⊥) → (u : ℕ) → u < length after → (Contains order u → ⊥) → IsReady after order u → ⊥
is_whole after exists w r order none k empty no_ready u known absent ready = elim (cases_Bool (is_marked exists u)) [
  | inl s ↦ absent (k.existing u s)
  | inr m ↦ elim (k.somewhere u known m) [
    | inl l ↦ empty u l
    | inr (inl g) ↦ no_ready u g
    | inr (inr q) ↦ not_both (k.marked q.0 (ready q.0 q.1)) q.2
  ]
]

-- ---- The first rows

pub row_more : (ws : List (List ℕ)) (k : ℕ) → ((j : ℕ) → row ws j ≡ []) → row (ws ++ [] ∷ []) k ≡ []
row_more [] zero h = refl
row_more [] (suc k) h = refl
row_more (x ∷ ws) zero h = h 0
row_more (x ∷ ws) (suc k) h = row_more ws k (λ j. h (suc j))

-- ---- How many are not placed yet

pub fewer : (exists : List Bool) (t : ℕ) → t < length exists → is_marked exists t ≡ false → missing (set exists t true) < missing exists
fewer [] t lt h = absurd (omega (arith, lt))
fewer (true ∷ bs) zero lt h = not_both refl h
fewer (false ∷ bs) zero lt h = omega arith
fewer (true ∷ bs) (suc t) lt h = fewer bs t (omega (arith, lt)) h
fewer (false ∷ bs) (suc t) lt h = let f = fewer bs t (omega (arith, lt)) h in omega (arith, f)

-- ---- The set of ready tasks

equal_only : (a b : Bool) → is_eq (cond a Less (cond b Equal Greater)) ≡ true → b ≡ true
equal_only true b h = absurd (false≢true h)
equal_only false true h = refl
equal_only false false h = h

pub same_at : (t u : ℕ) → is_eq (nat_cmp t u) ≡ true → u ≡ t
same_at t u h = sym (eqb-true t u (equal_only (nat_lt t u) (t == u) h))

pub other_at : (t u : ℕ) → u ≢ t → is_eq (nat_cmp t u) ≡ false
other_at t u n = elim (cases_Bool (is_eq (nat_cmp t u))) [ inl h ↦ absurd (n (same_at t u h)) | inr h ↦ h ]

pub not_above : (t u : ℕ) → is_gt (nat_cmp t u) ≡ false → t ≤ u
not_above t u h = le_from_not_gt t u h

pub was_there : (b c d : Bool) → d ≡ cond b false c → d ≡ true → c ≡ true
was_there true c d e h = not_both h e
was_there false c d e h = sym e ∙ h

-- ---- Loose tasks, in other words

pub loosen : (after : List (List ℕ)) (exists : List Bool) (w : List (List ℕ)) (r : ℕ → Bool) (order : List ℕ) (loose loose' : ℕ → Type 0)
    → Keeps after exists w r order loose → ((u : ℕ) → loose u → loose' u) → ((u : ℕ) → loose' u → loose u) → Keeps after exists w r order loose'
loosen after exists w r order loose loose' k on back = record {
  marks = k.marks;
  places = k.places;
  marked = k.marked;
  existing = k.existing;
  closed = k.closed;
  ready_known = k.ready_known;
  ready_waits = k.ready_waits;
  ready_after = k.ready_after;
  waits_known = k.waits_known;
  waits_after = k.waits_after;
  loose_known = λ u l. k.loose_known u (back u l);
  loose_waits = λ u l. k.loose_waits u (back u l);
  somewhere = λ u known lacks. elim (k.somewhere u known lacks) [ inl l ↦ inl (on u l) | inr g ↦ inr g ];
}

pub some_key : (p : ℕ → Bool) (keys : List ℕ) → list_any p keys ≡ true → 0 < length keys
some_key p [] h = absurd (false≢true h)
some_key p (k ∷ keys) h = omega arith

pub none_left : (r : Option ℕ) → IsSome r → ((x : ℕ) → r ≡ Some x → ⊥) → ⊥
none_left None h d = absurd (false≢true h)
none_left (Some x) h d = d x refl
