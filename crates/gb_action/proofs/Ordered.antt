-- A binary search in entries that are in the order of their keys.
use Rattle.std.proofs.Common.{arith, ◌≡◌, ◌≢◌, ℕ, zero, suc, ◌<◌, ◌≤◌, Bool, true, false, ◌&&◌, T, List, [], ◌∷◌, length, get_or, set, Some, None, refl, sym, ap, subst, ◌∙◌, add-one, ◌⊎◌, inl, inr, IsTrue}
use Rattle.std.specs.List.{insert}
use Rattle.std.specs.List.Sorted.{IsNonDecreasingBy, IsPartitionPoint}
use Rattle.std.proofs.lemmas.List.Sorted.{searchable_from_sorted}
use Rattle.std.proofs.lemmas.Bool.{cases_lt}
use Rattle.std.specs.Ordering.{is_lt, ordering_reverse, ordering_index}
use Rattle.std.specs.Cmp.Lexicographic.{nat_list_cmp_total}
use Rattle.std.specs.declared.cmp.Ordering.{Ordering}
use Rattle.std.specs.declared.cmp.Ordering.TheVariants.{Less, Equal, Greater}
use Rattle.std.specs.FinMap.Entries.{find, put, below_all, is_sorted, is_sorted-put, by_order}
use Rattle.gb_core.specs.Lists.{byte_order}
use Rattle.gb_core.proofs.Found.{tied_same, same_tied, find-same, find-other}

and_first : (a b : Bool) → T (a && b) → T a
and_first true b p = tt
and_first false b p = absurd p

and_second : (a b : Bool) → T (a && b) → T b
and_second true b p = p
and_second false b p = absurd p

is_less : (o : Ordering) → T (is_lt o) → o ≡ Less
is_less Less p = refl
is_less Equal p = absurd p
is_less Greater p = absurd p

reversed : (x y : List ℕ) (o : Ordering) → byte_order x y ≡ o → byte_order y x ≡ ordering_reverse o
reversed x y o p = nat_list_cmp_total.antisymm y x ∙ ap ordering_reverse p

T_true : (b : Bool) → T b → b ≡ true
T_true true t = refl
T_true false t = absurd t

true_T : (b : Bool) → b ≡ true → T b
true_T b e = subst T (sym e) tt

module _ {X : Type 0} where
  below_at : (x : List ℕ) (es : List (List ℕ × X)) (i : ℕ) (d : List ℕ × X) → T (below_all byte_order x es) → i < length es → byte_order x (get_or es i d).0 ≡ Less
  below_at x [] i d h w = absurd (omega arith)
  below_at x (e ∷ es) zero d h w = is_less _ (and_first _ _ h)
  below_at x (e ∷ es) (suc i) d h w = below_at x es i d (and_second _ _ h) (omega arith)

  adjacent : (es : List (List ℕ × X)) (k : ℕ) (d : List ℕ × X) → T (is_sorted byte_order es) → suc k < length es
      → is_lt (byte_order (get_or es (suc k) d).0 (get_or es k d).0) ≡ false
  adjacent [] k d h w = absurd (omega arith)
  adjacent (e ∷ es) zero d h w = ap is_lt (reversed e.0 (get_or es 0 d).0 Less (below_at e.0 es 0 d (and_first _ _ h) (omega arith)))
  adjacent (e ∷ es) (suc k) d h w = adjacent es k d (and_second _ _ h) (omega arith)

  pub searchable : (es : List (List ℕ × X)) (q : List ℕ) → IsTrue (is_sorted byte_order es) → IsNonDecreasingBy (λ e. ordering_index (byte_order e.0 q)) es
  searchable es q h = searchable_from_sorted nat_list_cmp_total (λ e. e.0) es q (λ k d low high. rw add-one (adjacent es k d (true_T (is_sorted byte_order es) h) (rw add-one at high)))

  -- where the key is found
  find_at : (es : List (List ℕ × X)) (q : List ℕ) (i : ℕ) (d : List ℕ × X) → T (is_sorted byte_order es) → i < length es
      → byte_order (get_or es i d).0 q ≡ Equal → find byte_order q es ≡ Some (get_or es i d).1
  find_at [] q i d h w is = absurd (omega arith)
  find_at (e ∷ es) q zero d h w is = find-same q e es (tied_same e.0 q is)
  find_at (e ∷ es) q (suc i) d h w is =
      let less = below_at e.0 es i d (and_first _ _ h) (omega arith) in
      find-other q e es (λ same. absurd (let two : Less ≡ Equal = sym less ∙ ap (λ x. byte_order x (get_or es i d).0) same ∙ reversed (get_or es i d).0 q Equal is in cc))
      ∙ find_at es q i d (and_second _ _ h) (omega arith) is

  put_at : (es : List (List ℕ × X)) (q : List ℕ) (v : X) (i : ℕ) (d : List ℕ × X) → T (is_sorted byte_order es) → i < length es
      → byte_order (get_or es i d).0 q ≡ Equal → put byte_order q v es ≡ set es i (q, v)
  put_at [] q v i d h w is = absurd (omega arith)
  put_at (e ∷ es) q v zero d h w is =
      ap (λ o. by_order o ((q, v) ∷ e ∷ es) ((e.0, v) ∷ es) (e ∷ put byte_order q v es)) (reversed e.0 q Equal is) ∙ ap (λ k. (k, v) ∷ es) (tied_same e.0 q is)
  put_at (e ∷ es) q v (suc i) d h w is =
      let less = below_at e.0 es i d (and_first _ _ h) (omega arith) in
      let after = reversed e.0 q Less (subst (λ k. byte_order e.0 k ≡ Less) (tied_same (get_or es i d).0 q is) less) in
      ap (λ o. by_order o ((q, v) ∷ e ∷ es) ((e.0, v) ∷ es) (e ∷ put byte_order q v es)) after
      ∙ ap (λ r. e ∷ r) (put_at es q v i d (and_second _ _ h) (omega arith) is)

  pub find-at : (es : List (List ℕ × X)) (q : List ℕ) (i : ℕ) (d : List ℕ × X) → IsTrue (is_sorted byte_order es) → i < length es
      → byte_order (get_or es i d).0 q ≡ Equal → find byte_order q es ≡ Some (get_or es i d).1
  find-at es q i d h w is = find_at es q i d (true_T (is_sorted byte_order es) h) w is

  pub put-at : (es : List (List ℕ × X)) (q : List ℕ) (v : X) (i : ℕ) (d : List ℕ × X) → IsTrue (is_sorted byte_order es) → i < length es
      → byte_order (get_or es i d).0 q ≡ Equal → put byte_order q v es ≡ set es i (q, v)
  put-at es q v i d h w is = put_at es q v i d (true_T (is_sorted byte_order es) h) w is

  pub ordered-put : (es : List (List ℕ × X)) (q : List ℕ) (v : X) → IsTrue (is_sorted byte_order es) → IsTrue (is_sorted byte_order (put byte_order q v es))
  ordered-put es q v h = T_true (is_sorted byte_order (put byte_order q v es)) (is_sorted-put byte_order nat_list_cmp_total q v es (true_T (is_sorted byte_order es) h))

  -- where it is not
  pub find-none : (es : List (List ℕ × X)) (q : List ℕ) → ((k : ℕ) (d : List ℕ × X) → k < length es → byte_order (get_or es k d).0 q ≢ Equal) → find byte_order q es ≡ None
  find-none [] q h = refl
  find-none (e ∷ es) q h = find-other q e es (λ same. h 0 e (omega arith) (same_tied e.0 q same)) ∙ find-none es q (λ k d w. h (suc k) d (omega arith))

  pub put-insert : (es : List (List ℕ × X)) (q : List ℕ) (v : X) (i : ℕ) → i ≤ length es
      → IsPartitionPoint (λ e. byte_order e.0 q ≡ Less) (λ e. byte_order e.0 q ≡ Greater) es i → put byte_order q v es ≡ insert es i (q, v)
  put-insert [] q v zero w h = refl
  put-insert [] q v (suc i) w h = absurd (omega arith)
  put-insert (e ∷ es) q v zero w h =
      ap (λ o. by_order o ((q, v) ∷ e ∷ es) ((e.0, v) ∷ es) (e ∷ put byte_order q v es)) (reversed e.0 q Greater (h.1 0 e (omega arith) (omega arith)))
  put-insert (e ∷ es) q v (suc i) w h =
      ap (λ o. by_order o ((q, v) ∷ e ∷ es) ((e.0, v) ∷ es) (e ∷ put byte_order q v es)) (reversed e.0 q Less (h.0 0 e (omega arith) (omega arith)))
      ∙ ap (λ r. e ∷ r) (put-insert es q v i (omega arith) (λ k d low high. h.0 (suc k) d (omega arith) (omega arith), λ k d low high. h.1 (suc k) d (omega arith) (omega arith)))

  pub missing : (es : List (List ℕ × X)) (q : List ℕ) (i : ℕ)
      → IsPartitionPoint (λ e. byte_order e.0 q ≡ Less) (λ e. byte_order e.0 q ≡ Greater) es i → find byte_order q es ≡ None
  missing es q i h = find-none es q (λ k d w same. by k d w same (cases_lt k i))
    where
      by : (k : ℕ) (d : List ℕ × X) → k < length es → byte_order (get_or es k d).0 q ≡ Equal → (k < i) ⊎ (i ≤ k) → ⊥
      by k d w same (inl low) = let two : Less ≡ Equal = sym (h.0 k d (omega arith) low) ∙ same in cc
      by k d w same (inr high) = let two : Greater ≡ Equal = sym (h.1 k d high w) ∙ same in cc
