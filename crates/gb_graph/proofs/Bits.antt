-- Bits of rows of words, and the entry of an order at an index.
use Rattle.std.proofs.Common.{◌≡◌, ◌<◌, ◌≤◌, ◌≢◌, ◌+◌, ◌*◌, ◌/◌, ◌%◌, ◌^◌, ℕ, List, [], ◌∷◌, ◌++◌, length, get_or, take, ap, sym, subst, ◌∙◌, ◌⊎◌, inl, inr, Contains, arith, max, w64, refl}
use Rattle.std.specs.Int.{bit_at}
use Rattle.std.specs.Int.Bits.{bit_or, or_zero_r}
use Rattle.std.proofs.Math.ListN.{set, get_or-eq_default}
use Rattle.std.proofs.lemmas.Bool.{cases_eq, cases_order}
use Rattle.std.proofs.lemmas.List.{get_or-set_same, get_or-set_other, take-append-le, length-append, get_or_append_left, take_more}
use Rattle.std.proofs.Math.Seq.{take-append_seam, get_or-append_seam}
use Rattle.std.proofs.lemmas.List.Elements.{Contains-append_cases}
use Rattle.std.proofs.lemmas.Nat.Bits.{bit_at_or, bit_at_set_same, bit_at_set_other, bit_at-lt}
use Rattle.gb_graph.specs.Order.{row, InOrder, begins, goes_on}
use Rattle.gb_graph.specs.Chains.{IsAfter, start, step, bit_in}
use Rattle.gb_graph.proofs.Keeping.{one_contained}

past : (new old other : List ℕ) (n k : ℕ) → length other ≤ n → n ≤ k → get_or new k 0 ≡ get_or old k 0
    → get_or new k 0 ≡ bit_or (get_or old k 0) (get_or other k 0)
past new old other n k lt h rest =
    let b : get_or other k 0 ≡ 0 = get_or-eq_default other 0 (omega arith) in
    rest ∙ sym (ap (λ x. bit_or (get_or old k 0) x) b ∙ or_zero_r (get_or old k 0))

pub word_joined : (new old other : List ℕ) (n : ℕ) → length other ≤ n
    → ((k : ℕ) → k < n → get_or new k 0 ≡ bit_or (get_or old k 0) (get_or other k 0)) → ((k : ℕ) → n ≤ k → get_or new k 0 ≡ get_or old k 0)
    → (k : ℕ) → get_or new k 0 ≡ bit_or (get_or old k 0) (get_or other k 0)
word_joined new old other n lt joined rest k = elim (cases_order k n) [
  | inl e ↦ let h : n ≤ k = omega arith in past new old other n k lt h (rest k h)
  | inr (inl h) ↦ joined k h
  | inr (inr g) ↦ let h : n ≤ k = omega arith in past new old other n k lt h (rest k h)
]

pub bits_joined : (new old other : List ℕ) → ((k : ℕ) → get_or new k 0 ≡ bit_or (get_or old k 0) (get_or other k 0)) → (i : ℕ) → bit_in new i ≡ max (bit_in old i) (bit_in other i)
bits_joined new old other h i = ap (λ w. bit_at w (i % 64)) (h (i / 64)) ∙ bit_at_or _ _ (i % 64)

pub marked_same : (row : List ℕ) (t : ℕ) → t / 64 < length row → bit_in (set row (t / 64) (bit_or (get_or row (t / 64) 0) (1 * 2 ^ (t % 64) % 18446744073709551616))) t ≡ 1
marked_same row t lt = ap (λ v. bit_at v (t % 64)) (get_or-set_same row (t / 64) _ 0 lt) ∙ bit_at_set_same w64 (get_or row (t / 64) 0) (t % 64) (omega arith)

pub marked_other : (row : List ℕ) (t i : ℕ) → t / 64 < length row → i ≢ t → bit_in (set row (t / 64) (bit_or (get_or row (t / 64) 0) (1 * 2 ^ (t % 64) % 18446744073709551616))) i ≡ bit_in row i
marked_other row t i lt n =
    let v = bit_or (get_or row (t / 64) 0) (1 * 2 ^ (t % 64) % 18446744073709551616) in
    elim (cases_eq (i / 64) (t / 64)) [
      | inl e ↦
          let d : i % 64 ≢ t % 64 = omega arith in
          ap (λ k. bit_at (get_or (set row (t / 64) v) k 0) (i % 64)) e ∙ ap (λ x. bit_at x (i % 64)) (get_or-set_same row (t / 64) v 0 lt)
          ∙ bit_at_set_other w64 (get_or row (t / 64) 0) (t % 64) (omega arith) (i % 64) d ∙ ap (λ k. bit_at (get_or row k 0) (i % 64)) (sym e)
      | inr d ↦ ap (λ x. bit_at x (i % 64)) (get_or-set_other row (t / 64) (i / 64) v 0 d)
    ]

-- ---- The entries of an order

pub order_known : {after : List (List ℕ)} {order : List ℕ} → InOrder after order → (t : ℕ) → Contains order t → t < length after
order_known begins t h = absurd (omega (arith, h.1))
order_known {after} (goes_on {existing} {task} g n) t h = elim (Contains-append_cases existing (task ∷ []) t h) [
  | inl o ↦ order_known g t o
  | inr s ↦ subst (λ v. v < length after) (sym (one_contained task t s)) n.known
]

pub exists_before : {after : List (List ℕ)} {order : List ℕ} → InOrder after order → (k : ℕ) → k < length order → (p : ℕ) → Contains (row after (get_or order k 0)) p → Contains (take k order) p
exists_before begins k lt p h = absurd (omega (arith, lt))
exists_before {after} (goes_on {existing} {task} g n) k lt p h =
    let more : length (existing ++ task ∷ []) ≡ length existing + 1 = length-append existing (task ∷ []) in
    elim (cases_order k (length existing)) [
      | inl e ↦
          let at : get_or (existing ++ task ∷ []) k 0 ≡ task = ap (λ j. get_or (existing ++ task ∷ []) j 0) e ∙ get_or-append_seam existing task [] 0 in
          subst (λ xs. Contains xs p) (sym (ap (λ j. take j (existing ++ task ∷ [])) e ∙ take-append_seam existing (task ∷ []))) (n.ready p (subst (λ v. Contains (row after v) p) at h))
      | inr (inl l) ↦
          let at : get_or (existing ++ task ∷ []) k 0 ≡ get_or existing k 0 = get_or_append_left existing (task ∷ []) 0 k l in
          subst (λ xs. Contains xs p) (sym (take-append-le k existing (task ∷ []) (omega arith))) (exists_before g k l p (subst (λ v. Contains (row after v) p) at h))
      | inr (inr l) ↦ absurd (omega (arith, lt, more, l))
    ]

-- ---- Chains from their front

pub longer : {after : List (List ℕ)} {t q p : ℕ} → Contains (row after t) q → IsAfter after q p → IsAfter after t p
longer c (start d) = step (start c) d
longer c (step h d) = step (longer c h) d

pub prefix : {after : List (List ℕ)} {t p : ℕ} → IsAfter after t p → (q : ℕ) × Contains (row after t) q × ((p ≡ q) ⊎ IsAfter after q p)
prefix {after} {t} {p} (start c) = (p, c, inl refl)
prefix {after} {t} {p} (step {between} h d) = let f = prefix h in elim f.2 [
  | inl e ↦ (f.0, f.1, inr (start (subst (λ v. Contains (row after v) p) e d)))
  | inr g ↦ (f.0, f.1, inr (step g d))
]

-- ---- A row includes one more task of its list

one_of : (x y : ℕ) → max x y ≡ 1 → (x ≡ 1) ⊎ (y ≡ 1)
one_of x y h = elim (cases_eq x 1) [ inl e ↦ inl e | inr n ↦ inr (omega arith) ]

pub written : (n : ℕ) (new rest : List ℕ) → length new ≡ n → take n (new ++ rest) ≡ new
written n new rest e = ap (λ k. take k (new ++ rest)) (sym e) ∙ take-append_seam new rest

pub takes_sound : (a : List (List ℕ)) (t b : ℕ) (r0 r1 r2 other : List ℕ) → Contains (row a t) b
    → ((i : ℕ) → bit_in r1 i ≡ max (bit_in r0 i) (bit_in other i)) → ((i : ℕ) → i ≢ b → bit_in r2 i ≡ bit_in r1 i)
    → ((p : ℕ) → bit_in other p ≡ 1 → IsAfter a b p) → ((p : ℕ) → bit_in r0 p ≡ 1 → IsAfter a t p) → (p : ℕ) → bit_in r2 p ≡ 1 → IsAfter a t p
takes_sound a t b r0 r1 r2 other c joined kept of so p h = elim (cases_eq p b) [
  | inl e ↦ start (subst (λ v. Contains (row a t) v) (sym e) c)
  | inr n ↦ elim (one_of (bit_in r0 p) (bit_in other p) (sym (joined p) ∙ sym (kept p n) ∙ h)) [ inl x ↦ so p x | inr y ↦ longer c (of p y) ]
]

pub takes_complete : (a : List (List ℕ)) (b m : ℕ) (xs r0 r1 r2 other : List ℕ) → b ≡ get_or xs m 0
    → ((i : ℕ) → bit_in r1 i ≡ max (bit_in r0 i) (bit_in other i)) → bit_in r2 b ≡ 1 → ((i : ℕ) → i ≢ b → bit_in r2 i ≡ bit_in r1 i)
    → ((p : ℕ) → IsAfter a b p → bit_in other p ≡ 1)
    → ((j p : ℕ) → j < m → (p ≡ get_or xs j 0) ⊎ IsAfter a (get_or xs j 0) p → bit_in r0 p ≡ 1)
    → (j p : ℕ) → j < m + 1 → (p ≡ get_or xs j 0) ⊎ IsAfter a (get_or xs j 0) p → bit_in r2 p ≡ 1
takes_complete a b m xs r0 r1 r2 other is joined same kept of so j p lt h = elim (cases_eq p b) [
  | inl e ↦ ap (λ v. bit_in r2 v) e ∙ same
  | inr n ↦ kept p n ∙ joined p ∙ elim (cases_eq j m) [
    | inl e ↦ elim h [
      | inl d ↦ absurd (n (d ∙ ap (λ k. get_or xs k 0) e ∙ sym is))
      | inr g ↦
          let y : bit_in other p ≡ 1 = of p (subst (λ v. IsAfter a v p) (ap (λ k. get_or xs k 0) e ∙ sym is) g) in
          let x : bit_in r0 p < 2 = bit_at-lt (get_or r0 (p / 64) 0) (p % 64) in
          top (bit_in r0 p) (bit_in other p) x y
    ]
    | inr d ↦
        let x : bit_in r0 p ≡ 1 = so j p (omega arith) h in
        let y : bit_in other p < 2 = bit_at-lt (get_or other (p / 64) 0) (p % 64) in
        flip_top (bit_in r0 p) (bit_in other p) x y
  ]
]
  where
    top : (x y : ℕ) → x < 2 → y ≡ 1 → max x y ≡ 1
    top x y l e = omega arith

    flip_top : (x y : ℕ) → x ≡ 1 → y < 2 → max x y ≡ 1
    flip_top x y e l = omega arith

pub one_more : (order : List ℕ) (k t : ℕ) → k < length order → Contains (take (k + 1) order) t → Contains (take k order) t ⊎ (t ≡ get_or order k 0)
one_more order k t lt h = elim (Contains-append_cases (take k order) (get_or order k 0 ∷ []) t (subst (λ xs. Contains xs t) (take_more order k 0 lt) h)) [
  | inl o ↦ inl o
  | inr n ↦ inr (one_contained (get_or order k 0) t n)
]
