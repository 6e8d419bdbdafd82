-- Two trees are merged, least path first.
use Rattle.std.proofs.Common.{arith, ◌≡◌, ◌≤◌, ◌<◌, ◌+◌, ◌-◌, ◌⊎◌, inl, inr, ℕ, length, get_or, take, Bool, true, false, ◌&&◌, IsTrue, List, [], ◌∷◌, ◌++◌, map, Some, None, drop, refl, sym, ◌∙◌, ap, subst}
use Rattle.std.proofs.lemmas.List.{drop-drop, drop_all, length-drop, take_all}
use Rattle.std.specs.List.{AllByRecursion, flat_map}
use Rattle.std.specs.Ordering.{is_lt, ordering_reverse}
use Rattle.std.specs.Cmp.Lexicographic.{nat_list_cmp_total}
use Rattle.std.specs.declared.cmp.Ordering.{Ordering}
use Rattle.std.specs.declared.cmp.Ordering.TheVariants.{Less, Equal, Greater}
use Rattle.std.specs.FinMap.Entries.{put, below_all, is_sorted, by_order}
use Rattle.gb_action.specs.Changes.{change_at, changes_between, in_order}
use Rattle.gb_core.specs.Lists.{byte_order}
use Rattle.gb_action.specs.Files.{Tree, file_at}
use Rattle.gb_action.specs.declared.change.Change.{Change}
use Rattle.gb_action.specs.declared.change.Change.TheVariants.{Added, Removed}
use Rattle.gb_core.proofs.Found.{find-same, find-other, same_tied, tied_same}
use Rattle.gb_tree.specs.Merge.{reported, past}
use Rattle.gb_tree.proofs.Loops.{step_here, with_none}

-- the path comes before each of the tree
abbrev Before : List ℕ → Tree → Type 0
Before k es = AllByRecursion (λ e. byte_order k e.0 ≡ Less) es

reversed : (x y : List ℕ) (o : Ordering) → byte_order x y ≡ o → byte_order y x ≡ ordering_reverse o
reversed x y o p = nat_list_cmp_total.antisymm y x ∙ ap ordering_reverse p

separate : (x y : List ℕ) → byte_order x y ≡ Less → y ≡ x → ⊥
separate x y less same = let two : Less ≡ Equal = sym less ∙ same_tied x y (sym same) in cc

before_further : (x y : List ℕ) (es : Tree) → byte_order x y ≡ Less → Before y es → Before x es
before_further x y [] less h = tt
before_further x y (e ∷ es) less h = (nat_list_cmp_total.trans x y e.0 less h.0, before_further x y es less h.1)

before_append : (k : List ℕ) (xs ys : Tree) → Before k xs → Before k ys → Before k (xs ++ ys)
before_append k [] ys h g = g
before_append k (x ∷ xs) ys h g = (h.0, before_append k xs ys h.1 g)

before_put : (k q v : List ℕ) (es : Tree) → Before k es → byte_order k q ≡ Less → Before k (put byte_order q v es)
before_put k q v [] h less = (less, tt)
before_put k q v (e ∷ es) h less = elim (byte_order q e.0) as (λ o. Before k (by_order o ((q, v) ∷ e ∷ es) ((e.0, v) ∷ es) (e ∷ put byte_order q v es))) [
  | Less ↦ (less, h)
  | Equal ↦ (h.0, h.1)
  | Greater ↦ (h.0, before_put k q v es h.1 less)
]

before_in_order : (k : List ℕ) (es : Tree) → Before k es → Before k (in_order es)
before_in_order k [] h = tt
before_in_order k (e ∷ es) h = before_put k e.0 e.1 (in_order es) (before_in_order k es h.1) h.0

put_before : (k v : List ℕ) (es : Tree) → Before k es → put byte_order k v es ≡ (k, v) ∷ es
put_before k v [] h = refl
put_before k v (e ∷ es) h = ap (λ o. by_order o ((k, v) ∷ e ∷ es) ((e.0, v) ∷ es) (e ∷ put byte_order k v es)) h.0

put_same : (k v x : List ℕ) (es : Tree) → put byte_order k v ((k, x) ∷ es) ≡ (k, v) ∷ es
put_same k v x es = ap (λ o. by_order o ((k, v) ∷ (k, x) ∷ es) ((k, v) ∷ es) ((k, x) ∷ put byte_order k v es)) (same_tied k k refl)

put_later : (k x q v : List ℕ) (es : Tree) → byte_order k q ≡ Less → put byte_order q v ((k, x) ∷ es) ≡ (k, x) ∷ put byte_order q v es
put_later k x q v es less = ap (λ o. by_order o ((q, v) ∷ (k, x) ∷ es) ((k, v) ∷ es) ((k, x) ∷ put byte_order q v es)) (reversed k q Less less)

in_order_middle : (k v : List ℕ) (old new : Tree) → Before k old → Before k new → in_order (old ++ (k, v) ∷ new) ≡ (k, v) ∷ in_order (old ++ new)
in_order_middle k v [] new h g = put_before k v (in_order new) (before_in_order k new g)
in_order_middle k v (e ∷ old) new h g = ap (put byte_order e.0 e.1) (in_order_middle k v old new h.1 g) ∙ put_later k v e.0 e.1 (in_order (old ++ new)) h.0

find_before : (k : List ℕ) (es : Tree) → Before k es → file_at es k ≡ None
find_before k [] h = refl
find_before k (e ∷ es) h = find-other k e es (separate k e.0 h.0) ∙ find_before k es h.1

find_first : (k v : List ℕ) (es : Tree) → file_at ((k, v) ∷ es) k ≡ Some v
find_first k v es = find-same k (k, v) es refl

find_later : (k v q : List ℕ) (es : Tree) → byte_order k q ≡ Less → file_at ((k, v) ∷ es) q ≡ file_at es q
find_later k v q es less = find-other q (k, v) es (λ same. separate k q less (sym same))

flat_same : (f g : List ℕ × List ℕ → List Change) (k : List ℕ) (es : Tree) → ((e : List ℕ × List ℕ) → byte_order k e.0 ≡ Less → f e ≡ g e) → Before k es → flat_map f es ≡ flat_map g es
flat_same f g k [] same h = refl
flat_same f g k (e ∷ es) same h = ap (λ c. c ++ flat_map f es) (same e h.0) ∙ ap (λ cs. g e ++ cs) (flat_same f g k es same h.1)

abbrev change_of : Tree → Tree → List ℕ × List ℕ → List Change
change_of old new = λ file. change_at file.0 (file_at old file.0) (file_at new file.0)

removed_first : (k v : List ℕ) (old new : Tree) → Before k old → Before k new → changes_between ((k, v) ∷ old) new ≡ Removed k ∷ changes_between old new
removed_first k v old new h g =
    let rest = in_order (old ++ new) in
    let below = before_in_order k (old ++ new) (before_append k old new h g) in
    ap (flat_map (change_of ((k, v) ∷ old) new)) (put_before k v rest below)
    ∙ ap (λ o. change_at k o (file_at new k) ++ flat_map (change_of ((k, v) ∷ old) new) rest) (find_first k v old)
    ∙ ap (λ o. change_at k (Some v) o ++ flat_map (change_of ((k, v) ∷ old) new) rest) (find_before k new g)
    ∙ ap (λ cs. Removed k ∷ cs) (flat_same (change_of ((k, v) ∷ old) new) (change_of old new) k rest (λ e less. ap (λ o. change_at e.0 o (file_at new e.0)) (find_later k v e.0 old less)) below)

added_first : (k v : List ℕ) (old new : Tree) → Before k old → Before k new → changes_between old ((k, v) ∷ new) ≡ Added k ∷ changes_between old new
added_first k v old new h g =
    let rest = in_order (old ++ new) in
    let below = before_in_order k (old ++ new) (before_append k old new h g) in
    ap (flat_map (change_of old ((k, v) ∷ new))) (in_order_middle k v old new h g)
    ∙ ap (λ o. change_at k o (file_at ((k, v) ∷ new) k) ++ flat_map (change_of old ((k, v) ∷ new)) rest) (find_before k old h)
    ∙ ap (λ o. change_at k None o ++ flat_map (change_of old ((k, v) ∷ new)) rest) (find_first k v new)
    ∙ ap (λ cs. Added k ∷ cs) (flat_same (change_of old ((k, v) ∷ new)) (change_of old new) k rest (λ e less. ap (λ o. change_at e.0 (file_at old e.0) o) (find_later k v e.0 new less)) below)

both_first : (k v w : List ℕ) (old new : Tree) → Before k old → Before k new → changes_between ((k, v) ∷ old) ((k, w) ∷ new) ≡ change_at k (Some v) (Some w) ++ changes_between old new
both_first k v w old new h g =
    let rest = in_order (old ++ new) in
    let below = before_in_order k (old ++ new) (before_append k old new h g) in
    let change = change_of ((k, v) ∷ old) ((k, w) ∷ new) in
    ap (flat_map change) (ap (put byte_order k v) (in_order_middle k w old new h g) ∙ put_same k v w rest)
    ∙ ap (λ o. change_at k o (file_at ((k, w) ∷ new) k) ++ flat_map change rest) (find_first k v old)
    ∙ ap (λ o. change_at k (Some v) o ++ flat_map change rest) (find_first k w new)
    ∙ ap (λ cs. change_at k (Some v) (Some w) ++ cs) (flat_same change (change_of old new) k rest (λ e less.
    ap (λ o. change_at e.0 o (file_at ((k, w) ∷ new) e.0)) (find_later k v e.0 old less) ∙ ap (λ o. change_at e.0 (file_at old e.0) o) (find_later k w e.0 new less)) below)

-- ---- trees in order

and_parts : (a b : Bool) → (a && b) ≡ true → (a ≡ true) × (b ≡ true)
and_parts true b e = (refl, e)
and_parts false b e = absurd (cc)

is_less : (o : Ordering) → is_lt o ≡ true → o ≡ Less
is_less Less e = refl
is_less Equal e = absurd (cc)
is_less Greater e = absurd (cc)

all_before : (k : List ℕ) (es : Tree) → below_all byte_order k es ≡ true → Before k es
all_before k [] h = tt
all_before k (e ∷ es) h = let parts = and_parts (is_lt (byte_order k e.0)) (below_all byte_order k es) h in (is_less (byte_order k e.0) parts.0, all_before k es parts.1)

sorted_parts : (e : List ℕ × List ℕ) (es : Tree) → IsTrue (is_sorted byte_order (e ∷ es)) → Before e.0 es × IsTrue (is_sorted byte_order es)
sorted_parts e es h = let parts = and_parts (below_all byte_order e.0 es) (is_sorted byte_order es) h in (all_before e.0 es parts.0, parts.1)

-- the two compared entries show what changed at the least path, and the rest is compared later
pub reported_met : (a b : List ℕ × List ℕ) (old new : Tree) → IsTrue (is_sorted byte_order (a ∷ old)) → IsTrue (is_sorted byte_order (b ∷ new))
    → reported (byte_order a.0 b.0) a b ++ changes_between (drop (past (byte_order a.0 b.0)).0 (a ∷ old)) (drop (past (byte_order a.0 b.0)).1 (b ∷ new)) ≡ changes_between (a ∷ old) (b ∷ new)
reported_met a b old new sorted_old sorted_new =
    let olds = sorted_parts a old sorted_old in
    let news = sorted_parts b new sorted_new in
    elim (byte_order a.0 b.0) as (λ o. byte_order a.0 b.0 ≡ o → reported o a b ++ changes_between (drop (past o).0 (a ∷ old)) (drop (past o).1 (b ∷ new)) ≡ changes_between (a ∷ old) (b ∷ new)) [
      | Less ↦ λ is. sym (removed_first a.0 a.1 old (b ∷ new) olds.0 (is, before_further a.0 b.0 new is news.0))
      | Equal ↦ λ is.
          let same = tied_same a.0 b.0 is in
          sym (subst (λ (k : List ℕ). changes_between (a ∷ old) ((k, b.1) ∷ new) ≡ change_at a.0 (Some a.1) (Some b.1) ++ changes_between old new) same
          (both_first a.0 a.1 b.1 old new olds.0 (subst (λ (k : List ℕ). Before k new) (sym same) news.0)))
      | Greater ↦ λ is.
          let less = reversed a.0 b.0 Greater is in
          sym (added_first b.0 b.1 (a ∷ old) new (less, before_further b.0 a.0 old less olds.0) news.0)
    ] refl

pub sorted_past : (a b : List ℕ × List ℕ) (old new : Tree) → IsTrue (is_sorted byte_order (a ∷ old)) → IsTrue (is_sorted byte_order (b ∷ new))
    → IsTrue (is_sorted byte_order (drop (past (byte_order a.0 b.0)).0 (a ∷ old))) × IsTrue (is_sorted byte_order (drop (past (byte_order a.0 b.0)).1 (b ∷ new)))
sorted_past a b old new sorted_old sorted_new =
    elim (byte_order a.0 b.0) as (λ o. IsTrue (is_sorted byte_order (drop (past o).0 (a ∷ old))) × IsTrue (is_sorted byte_order (drop (past o).1 (b ∷ new)))) [
      | Less ↦ ((sorted_parts a old sorted_old).1, sorted_new)
      | Equal ↦ ((sorted_parts a old sorted_old).1, (sorted_parts b new sorted_new).1)
      | Greater ↦ (sorted_old, (sorted_parts b new sorted_new).1)
    ]

pub all_removed : (old : Tree) → IsTrue (is_sorted byte_order old) → map (λ e. Removed e.0) old ≡ changes_between old []
all_removed [] h = refl
all_removed (e ∷ old) h =
    let parts = sorted_parts e old h in
    ap (λ cs. Removed e.0 ∷ cs) (all_removed old parts.1) ∙ sym (removed_first e.0 e.1 old [] parts.0 tt)

pub all_added : (new : Tree) → IsTrue (is_sorted byte_order new) → map (λ e. Added e.0) new ≡ changes_between [] new
all_added [] h = refl
all_added (e ∷ new) h =
    let parts = sorted_parts e new h in
    ap (λ cs. Added e.0 ∷ cs) (all_added new parts.1) ∙ sym (added_first e.0 e.1 [] new tt parts.0)

-- ---- one step of the loop, and its end

pub record Turned (before after : Tree) (i j : ℕ) (a b : List ℕ × List ℕ) (n : ℕ × ℕ) : Type 0 where
  pub at : i + n.0 ≤ length before
  pub to : j + n.1 ≤ length after
  pub before_sorted : IsTrue (is_sorted byte_order (drop (i + n.0) before))
  pub after_sorted : IsTrue (is_sorted byte_order (drop (j + n.1) after))
  pub faithful : reported (byte_order a.0 b.0) a b ++ changes_between (drop (i + n.0) before) (drop (j + n.1) after) ≡ changes_between (drop i before) (drop j after)

past_few : (o : Ordering) → ((past o).0 ≤ 1) × ((past o).1 ≤ 1)
past_few Less = (omega arith, omega arith)
past_few Equal = (omega arith, omega arith)
past_few Greater = (omega arith, omega arith)

pub turned : (before after : Tree) (i j : ℕ) (a b : List ℕ × List ℕ) (n : ℕ × ℕ) → i < length before → j < length after → a ≡ get_or before i a → b ≡ get_or after j b → n ≡ past (byte_order a.0 b.0)
    → IsTrue (is_sorted byte_order (drop i before)) → IsTrue (is_sorted byte_order (drop j after)) → Turned before after i j a b n
turned before after i j a b n within within_after is is_after counted sorted sorted_after =
    subst (λ (m : ℕ × ℕ). Turned before after i j a b m) (sym counted)
    (let m = past (byte_order a.0 b.0) in
    let few = past_few (byte_order a.0 b.0) in
    let old = drop (i + 1) before in
    let new = drop (j + 1) after in
    let here = step_here (λ xs. xs) before i a within is in
    let here_after = step_here (λ xs. xs) after j b within_after is_after in
    let sorted_here = subst (λ (xs : Tree). IsTrue (is_sorted byte_order xs)) here sorted in
    let sorted_here_after = subst (λ (xs : Tree). IsTrue (is_sorted byte_order xs)) here_after sorted_after in
    let further : drop (i + m.0) before ≡ drop m.0 (a ∷ old) = sym (drop-drop m.0 i before) ∙ ap (drop m.0) here in
    let further_after : drop (j + m.1) after ≡ drop m.1 (b ∷ new) = sym (drop-drop m.1 j after) ∙ ap (drop m.1) here_after in
    let both = sorted_past a b old new sorted_here sorted_here_after in
    record {
      at = omega (arith, few.0, within);
      to = omega (arith, few.1, within_after);
      before_sorted = subst (λ (xs : Tree). IsTrue (is_sorted byte_order xs)) (sym further) both.0;
      after_sorted = subst (λ (xs : Tree). IsTrue (is_sorted byte_order xs)) (sym further_after) both.1;
      faithful =
          ap (λ xs. reported (byte_order a.0 b.0) a b ++ changes_between xs (drop (j + m.1) after)) further
          ∙ ap (λ ys. reported (byte_order a.0 b.0) a b ++ changes_between (drop m.0 (a ∷ old)) ys) further_after
          ∙ reported_met a b old new sorted_here sorted_here_after
          ∙ sym (ap (λ xs. changes_between xs (drop j after)) here ∙ ap (λ ys. changes_between (a ∷ old) ys) here_after);
    })

-- a range to a slice's end is what is left
whole_range : {X : Type 0} (xs : List X) (i : ℕ) → take (length xs - i) (drop i xs) ≡ drop i xs
whole_range xs i = take_all (length xs - i) (drop i xs) (subst (λ n. n ≤ length xs - i) (sym (length-drop i xs)) (omega arith))

none_added : (old : Tree) → IsTrue (is_sorted byte_order old) → map (λ e. Removed e.0) old ++ [] ≡ changes_between old []
none_added old sorted = with_none (map (λ e. Removed e.0) old) ∙ all_removed old sorted

-- once one list is used up, the rest of the other is added
pub rest_reported : (before after : Tree) (i j : ℕ) → (length before ≤ i) ⊎ (length after ≤ j) → IsTrue (is_sorted byte_order (drop i before)) → IsTrue (is_sorted byte_order (drop j after))
    → map (λ e. Removed e.0) (take (length before - i) (drop i before)) ++ map (λ e. Added e.0) (take (length after - j) (drop j after)) ≡ changes_between (drop i before) (drop j after)
rest_reported before after i j over sorted sorted_after =
    ap (λ xs. map (λ e. Removed e.0) xs ++ map (λ e. Added e.0) (take (length after - j) (drop j after))) (whole_range before i)
    ∙ ap (λ ys. map (λ e. Removed e.0) (drop i before) ++ map (λ e. Added e.0) ys) (whole_range after j)
    ∙ elim over [
      | inl past_before ↦
          let none = drop_all i before past_before in
          subst (λ (xs : Tree). map (λ e. Removed e.0) xs ++ map (λ e. Added e.0) (drop j after) ≡ changes_between xs (drop j after)) (sym none) (all_added (drop j after) sorted_after)
      | inr past_after ↦
          let none = drop_all j after past_after in
          subst (λ (ys : Tree). map (λ e. Removed e.0) (drop i before) ++ map (λ e. Added e.0) ys ≡ changes_between (drop i before) ys) (sym none) (none_added (drop i before) sorted)
    ]
