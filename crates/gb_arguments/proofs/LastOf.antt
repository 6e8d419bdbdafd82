-- The values kept by name after one more text, and that their names rise.
use Rattle.std.proofs.Common.{◌≡◌, ◌≢◌, ℕ, ◌+◌, ◌<◌, Bool, true, ◌&&◌, cond, List, [], ◌∷◌, ◌++◌, Bor, length, take, drop, get_or, reverse, refl, sym, ap, ◌∙◌, ◌≤◌, add-one, arith, Some}
use Rattle.std.specs.Prelude.{AllPairs, map}
use Rattle.std.proofs.Math.Seq.{drop-cons}
use Rattle.std.proofs.lemmas.List.{map-append, map_more, reverse-append}
use Rattle.std.proofs.lemmas.Cmp.{nat_list_cmp_total}
use Rattle.std.proofs.lemmas.Map.Keys.{Less-from_sorted}
use Rattle.std.specs.BTreeMap.{insert_entry}
use Rattle.std.specs.FinMap.Entries.{below_all, by_order, find, find-put, is_sorted, put}
use Rattle.std.specs.List.{AllByRecursion, flat_map}
use Rattle.std.specs.List.Sorted.{IsStrictlySortedBy}
use Rattle.std.specs.Map.{keys_of}
use Rattle.std.specs.Ordering.{eq_by_cmp, is_lt, match_ordering}
use Rattle.std.specs.declared.cmp.Ordering.TheVariants.{Less, Equal, Greater}
use Rattle.gb_core.proofs.Found.{same_tied}
use Rattle.gb_core.specs.Lists.{byte_order}
use Rattle.gb_arguments.specs.Values.{IsLastOf, name_in, part, part_faults, texts_after, value_in}

abbrev Entries : Type 0
Entries = List (List ℕ × List ℕ)

-- ---- one entry more

insert-put : (k v : List ℕ) (es : Entries) → insert_entry byte_order es k v ≡ put byte_order k v es
insert-put k v [] = refl
insert-put k v (e ∷ es) =
    elim (byte_order k e.0) as (λ o. match_ordering o ((k, v) ∷ e ∷ es) ((e.0, v) ∷ es) (e ∷ insert_entry byte_order es k v)
    ≡ by_order o ((k, v) ∷ e ∷ es) ((e.0, v) ∷ es) (e ∷ put byte_order k v es)) [
      | Less ↦ refl
      | Equal ↦ refl
      | Greater ↦ ap (λ l. e ∷ l) (insert-put k v es)
    ]

length-insert : (es : Entries) (k v : List ℕ) → length (insert_entry byte_order es k v) ≤ length es + 1
length-insert [] k v = omega arith
length-insert (e ∷ es) k v =
    let rest = length-insert es k v in
    elim (byte_order k e.0) as (λ o. length (match_ordering o ((k, v) ∷ e ∷ es) ((e.0, v) ∷ es) (e ∷ insert_entry byte_order es k v)) ≤ length (e ∷ es) + 1) [
      | Less ↦ omega arith
      | Equal ↦ omega arith
      | Greater ↦ omega arith
    ]

module _ (texts : List (Bor (List ℕ))) (i : ℕ) (d : Bor (List ℕ)) (within : i < length texts) where
  abbrev text : List ℕ
  text = (get_or texts i d).now

  last_first : reverse (map part (texts_after (take (i + 1) texts))) ≡ part text ∷ reverse (map part (texts_after (take i texts)))
  last_first = ap (λ ts. reverse (map part ts)) (map_more (λ t. t.now) texts i d within)
      ∙ ap reverse (map-append part (texts_after (take i texts)) (text ∷ []))
      ∙ reverse-append (map part (texts_after (take i texts))) (part text ∷ [])

  -- the value stored under the name of a text is the last of this name
  pub last_more : (before after : Entries) → after ≡ insert_entry byte_order before (name_in text) (value_in text)
      → IsLastOf (texts_after (take i texts)) before → IsLastOf (texts_after (take (i + 1) texts)) after
  last_more before after added so_far name =
      ap (find byte_order name) (added ∙ insert-put (name_in text) (value_in text) before)
      ∙ find-put byte_order nat_list_cmp_total name (name_in text) (value_in text) before
      ∙ ap (cond (eq_by_cmp byte_order name (name_in text)) (Some (value_in text))) (so_far name)
      ∙ sym (ap (find byte_order name) last_first)

  -- there are no more entries than texts
  pub length-put : (before after : Entries) → after ≡ insert_entry byte_order before (name_in text) (value_in text) → length before ≤ i → length after ≤ i + 1
  length-put before after added few = let more = length-insert before (name_in text) (value_in text) in rw added (omega arith)

  -- the faults of the texts from this one on
  pub faults_left : flat_map part_faults (texts_after (drop i texts)) ≡ part_faults text ++ flat_map part_faults (texts_after (drop (i + 1) texts))
  faults_left = ap (λ ts. flat_map part_faults (texts_after ts)) (drop-cons texts i d within)
      ∙ ap (λ n. part_faults text ++ flat_map part_faults (texts_after (drop n texts))) (sym (add-one i))

-- ---- entries of a map

both : (a b : Bool) → a ≡ true → b ≡ true → (a && b) ≡ true
both a b p q = rw (p, q) refl

below_keys : (x : List ℕ) (es : Entries) → AllByRecursion (λ y. byte_order x y ≡ Less) (keys_of es) → below_all byte_order x es ≡ true
below_keys x [] h = refl
below_keys x (e ∷ es) h = both _ _ (ap is_lt h.0) (below_keys x es h.1)

-- the entries of a map are in order
pub strictly-is_sorted : (es : Entries) → IsStrictlySortedBy byte_order (keys_of es) → is_sorted byte_order es ≡ true
unfolding IsStrictlySortedBy
strictly-is_sorted [] h = refl
strictly-is_sorted (e ∷ es) h = both _ _ (below_keys e.0 es h.0) (strictly-is_sorted es h.1)

-- names that rise differ
pub rising-differ : (names : List (List ℕ)) → IsStrictlySortedBy byte_order names → AllPairs (λ one other. one ≢ other) names
rising-differ names rising i j d before within same =
    let low : byte_order (get_or names i d) (get_or names j d) ≡ Less = Less-from_sorted byte_order names i j d rising before within in
    let tied : byte_order (get_or names i d) (get_or names j d) ≡ Equal = same_tied _ _ same in
    cc
