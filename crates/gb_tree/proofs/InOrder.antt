-- Files are read place by place, and are in the order of their paths.
use Rattle.std.proofs.Common.{arith, add-one, ◌≡◌, ◌<◌, ◌+◌, inl, inr, ℕ, zero, suc, Bool, true, false, cond, ◌&&◌, List, [], ◌∷◌, ◌++◌, map, length, get_or, take, drop, Option, Some, None, refl, sym, ◌∙◌, ap}
use Rattle.std.proofs.lemmas.Bool.{and_parts, false≢true}
use Rattle.std.proofs.lemmas.List.{drop-drop, drop_all, drop_at}
use Rattle.std.proofs.lemmas.List.Folds.{list_all-append}
use Rattle.std.specs.Cmp.{tied_itself}
use Rattle.std.proofs.lemmas.Cmp.{nat_cmp_total}
use Rattle.std.specs.Cmp.Lexicographic.{nat_list_cmp_total}
use Rattle.std.specs.List.{AllByRecursion, filter, list_all}
use Rattle.std.specs.List.Sorted.{IsStrictlySortedBy}
use Rattle.std.specs.Ordering.{nat_cmp, ordering_then, ordering_reverse, is_eq, is_lt}
use Rattle.std.specs.Prelude.{IsSome}
use Rattle.std.specs.declared.cmp.Ordering.{Ordering}
use Rattle.std.specs.declared.cmp.Ordering.TheVariants.{Less, Equal, Greater}
use Rattle.std.specs.FinMap.Entries.{put, by_order, below_all, is_sorted}
use Rattle.gb_core.proofs.BySegments.{segments-joined}
use Rattle.gb_core.specs.Place.{is_place, is_segment, is_under, segments}
use Rattle.gb_core.specs.Lists.{byte_order}
use Rattle.gb_folder.specs.Files.{Place, Files, file_at, places_under}
use Rattle.gb_core.proofs.Found.{same_tied}
use Rattle.gb_tree.specs.Tree.{Entries, bytes_at, contents_at, entries_from, path_from}
use Rattle.gb_tree.proofs.Under.{IsUnder, under_parts}

pub reversed : (x y : List ℕ) (o : Ordering) → byte_order x y ≡ o → byte_order y x ≡ ordering_reverse o
reversed x y o p = nat_list_cmp_total.antisymm y x ∙ ap ordering_reverse p

one_tied : (c : ℕ) → nat_cmp c c ≡ Equal
one_tied c = tied_itself nat_cmp_total c

-- a common front does not count
same_order : (root a b : List ℕ) → byte_order (root ++ a) (root ++ b) ≡ byte_order a b
same_order [] a b = refl
same_order (c ∷ root) a b = ap (λ o. ordering_then o (byte_order (root ++ a) (root ++ b))) (one_tied c) ∙ same_order root a b

root_first : (root : List ℕ) (c : ℕ) (rest : List ℕ) → byte_order root (root ++ c ∷ rest) ≡ Less
root_first [] c rest = refl
root_first (d ∷ root) c rest = ap (λ o. ordering_then o (byte_order root (root ++ c ∷ rest))) (one_tied d) ∙ root_first root c rest

-- nothing ends in a slash
pub no_slash_last : (root : List ℕ) → is_place (root ++ 47 ∷ []) ≡ true → ⊥
no_slash_last root good =
    let parts = and_parts _ (list_all is_segment (segments (root ++ 47 ∷ []))) good in
    false≢true (sym (nothing (list_all is_segment (segments root))) ∙ sym (list_all-append is_segment (segments root) ([] ∷ [])) ∙ sym (ap (list_all is_segment) (segments-joined root [])) ∙ parts.1)
  where
    nothing : (b : Bool) → (b && false) ≡ false
    nothing true = refl
    nothing false = refl

pub past_root : (root rest : List ℕ) → path_from root (root ++ 47 ∷ rest) ≡ rest
past_root root rest = sym (drop-drop 1 (length root) (root ++ 47 ∷ rest)) ∙ ap (drop 1) (drop_at root (47 ∷ rest) (length root) refl)

pub at_root : (root : List ℕ) → path_from root root ≡ []
at_root root = drop_all (length root + 1) root (omega arith)

two_orders : (a b : List ℕ) → byte_order a b ≡ Less → byte_order b a ≡ Less → ⊥
two_orders a b x y = let e : Less ≡ Greater = sym y ∙ reversed a b Less x in cc

-- paths from one root are in the order of their places
pub paths_ordered : (root q p : List ℕ) → IsUnder q root → IsUnder p root → is_place p ≡ true → byte_order q p ≡ Less → byte_order (path_from root p) (path_from root q) ≡ Greater
paths_ordered root q p (inl at) (inl same) good less =
    absurd (let e : Less ≡ Equal = sym less ∙ same_tied q p (at ∙ sym same) in cc)
paths_ordered root q p (inl at) (inr ([], more)) good less = absurd (no_slash_last root (ap is_place (sym more) ∙ good))
paths_ordered root q p (inl at) (inr (c ∷ rest, more)) good less =
    ap (λ x. byte_order (path_from root x) (path_from root q)) more
    ∙ ap (λ x. byte_order x (path_from root q)) (past_root root (c ∷ rest))
    ∙ ap (λ x. byte_order (c ∷ rest) (path_from root x)) at
    ∙ ap (λ x. byte_order (c ∷ rest) x) (at_root root)
paths_ordered root q p (inr before) (inl same) good less =
    absurd (two_orders q root (ap (byte_order q) (sym same) ∙ less) (ap (byte_order root) before.1 ∙ root_first root 47 before.0))
paths_ordered root q p (inr before) (inr more) good less =
    let rests : byte_order before.0 more.0 ≡ Less =
    sym (same_order root (47 ∷ before.0) (47 ∷ more.0) ∙ ap (λ o. ordering_then o (byte_order before.0 more.0)) (one_tied 47))
    ∙ sym (ap (λ x. byte_order x (root ++ 47 ∷ more.0)) before.1 ∙ refl)
    ∙ sym (ap (byte_order q) more.1) ∙ less in
    ap (λ x. byte_order (path_from root x) (path_from root q)) more.1
    ∙ ap (λ x. byte_order x (path_from root q)) (past_root root more.0)
    ∙ ap (λ x. byte_order more.0 (path_from root x)) before.1
    ∙ ap (byte_order more.0) (past_root root before.0)
    ∙ reversed before.0 more.0 Less rests

abbrev first_or : {X : Type 0} → List X → X → X
first_or [] d = d
first_or (x ∷ xs) d = x

below_root : (root p : Place) (places : List Place) → AllByRecursion (λ q. byte_order p q ≡ Less) places → IsUnder p root → AllByRecursion (λ q. is_under q root ≡ true) places → AllByRecursion (λ q. is_place q ≡ true) places
    → below_all byte_order (path_from root p) (entries_from root places) ≡ true
below_root root p [] less mine under placed = refl
below_root root p (q ∷ places) less mine under placed =
    ap (λ o. is_lt o && below_all byte_order (path_from root p) (entries_from root places)) (reversed (path_from root q) (path_from root p) Greater (paths_ordered root p q mine (under_parts q root under.0) placed.0 less.0))
    ∙ below_root root p places less.1 mine under.1 placed.1

-- places in order give paths in order
pub entries_ordered : (root : Place) (places : List Place) → IsStrictlySortedBy byte_order places → AllByRecursion (λ q. is_under q root ≡ true) places → AllByRecursion (λ q. is_place q ≡ true) places
    → is_sorted byte_order (entries_from root places) ≡ true
unfolding IsStrictlySortedBy
entries_ordered root [] sorted under placed = refl
entries_ordered root (p ∷ places) sorted under placed =
    ap (λ b. b && is_sorted byte_order (entries_from root places)) (below_root root p places sorted.0 (under_parts p root under.0) under.1 placed.1)
    ∙ entries_ordered root places sorted.1 under.1 placed.1

-- ---- One entry more

pub is_less : (o : Ordering) → is_lt o ≡ true → o ≡ Less
is_less Less h = refl
is_less Equal h = absurd (cc)
is_less Greater h = absurd (cc)

before_at : (k : List ℕ) (entries : Entries) (i : ℕ) (e : List ℕ × Place) → i < length entries → e ≡ get_or entries i e → below_all byte_order k entries ≡ true → byte_order k e.0 ≡ Less
before_at k [] i e within is below = absurd (omega (arith, within))
before_at k (x ∷ entries) zero e within is below = ap (λ y. byte_order k y.0) is ∙ is_less (byte_order k x.0) (and_parts _ _ below).0
before_at k (x ∷ entries) (suc i) e within is below = before_at k entries i e (omega (arith, within)) is (and_parts _ _ below).1

put_next : (files : Files) (entries : Entries) (i : ℕ) (e : List ℕ × Place) → i < length entries → e ≡ get_or entries i e → is_sorted byte_order entries ≡ true
    → put byte_order e.0 (bytes_at files e.1) (contents_at files (take i entries)) ≡ contents_at files (take (suc i) entries)
put_next files [] i e within is sorted = absurd (omega (arith, within))
put_next files (x ∷ entries) zero e within is sorted = ap (λ y. (y.0, bytes_at files y.1) ∷ []) is
put_next files (x ∷ entries) (suc i) e within is sorted =
    let parts = and_parts _ _ sorted in
    let more = (x.0, bytes_at files x.1) ∷ contents_at files (take i entries) in
    ap (λ o. by_order o ((e.0, bytes_at files e.1) ∷ more) ((x.0, bytes_at files e.1) ∷ contents_at files (take i entries)) ((x.0, bytes_at files x.1) ∷ put byte_order e.0 (bytes_at files e.1) (contents_at files (take i entries))))
    (reversed x.0 e.0 Less (before_at x.0 entries i e (omega (arith, within)) is parts.0))
    ∙ ap (λ es. (x.0, bytes_at files x.1) ∷ es) (put_next files entries i e (omega (arith, within)) is parts.1)

pub file_more : (files : Files) (entries : Entries) (i : ℕ) (e : List ℕ × Place) → i < length entries → e ≡ get_or entries i e → is_sorted byte_order entries ≡ true
    → put byte_order e.0 (bytes_at files e.1) (contents_at files (take i entries)) ≡ contents_at files (take (i + 1) entries)
file_more files entries i e within is sorted = rw add-one (put_next files entries i e within is sorted)

-- ---- Entries whose paths are the same, by the values too, are in order alike

below_alike : {X Y : Type 0} (k : List ℕ) (xs : List (List ℕ × X)) (ys : List (List ℕ × Y)) → map (λ x. x.0) xs ≡ map (λ y. y.0) ys → below_all byte_order k xs ≡ below_all byte_order k ys
below_alike k [] [] same = refl
below_alike k [] (y ∷ ys) same = absurd (cc)
below_alike k (x ∷ xs) [] same = absurd (cc)
below_alike {X} {Y} k (x ∷ xs) (y ∷ ys) same =
    ap (λ path. is_lt (byte_order k path) && below_all byte_order k xs) (ap (λ paths. first_or paths x.0) same)
    ∙ ap (λ b. is_lt (byte_order k y.0) && b) (below_alike k xs ys (ap (λ paths. drop 1 paths) same))

pub sorted_alike : {X Y : Type 0} (xs : List (List ℕ × X)) (ys : List (List ℕ × Y)) → map (λ x. x.0) xs ≡ map (λ y. y.0) ys → is_sorted byte_order xs ≡ is_sorted byte_order ys
sorted_alike [] [] same = refl
sorted_alike [] (y ∷ ys) same = absurd (cc)
sorted_alike (x ∷ xs) [] same = absurd (cc)
sorted_alike (x ∷ xs) (y ∷ ys) same =
    ap (λ b. b && is_sorted byte_order xs) (ap (λ path. below_all byte_order path xs) (ap (λ paths. first_or paths x.0) same) ∙ below_alike y.0 xs ys (ap (λ paths. drop 1 paths) same))
    ∙ ap (λ b. below_all byte_order y.0 ys && b) (sorted_alike xs ys (ap (λ paths. drop 1 paths) same))

-- ---- the places that are listed have files

still_there : (e : Place × List ℕ) (es : Files) (q : Place) → IsSome (file_at es q) → IsSome (file_at (e ∷ es) q)
still_there e es q h = elim (byte_order q e.0) as (λ o. IsSome (cond (is_eq o) (Some e.1) (file_at es q))) [
  | Less ↦ h
  | Equal ↦ refl
  | Greater ↦ h
]

all_still : (e : Place × List ℕ) (es : Files) (fs : Files) → AllByRecursion (λ f. IsSome (file_at es f.0)) fs → AllByRecursion (λ f. IsSome (file_at (e ∷ es) f.0)) fs
all_still e es [] all = tt
all_still e es (f ∷ fs) all = (still_there e es f.0 all.0, all_still e es fs all.1)

each_exists : (es : Files) → AllByRecursion (λ f. IsSome (file_at es f.0)) es
each_exists [] = tt
each_exists (e ∷ es) = (ap (λ o. is_some_of (cond (is_eq o) (Some e.1) (file_at es e.0))) (tied_itself nat_list_cmp_total e.0), all_still e es es (each_exists es))
  where
    is_some_of : Option (List ℕ) → Bool
    is_some_of None = false
    is_some_of (Some bytes) = true

pub all_filter : {X : Type 0} (P : X → Type 0) (test : X → Bool) (xs : List X) → AllByRecursion P xs → AllByRecursion P (filter test xs)
all_filter P test [] all = tt
all_filter P test (x ∷ xs) all = elim (test x) as (λ b. AllByRecursion P (cond b (x ∷ filter test xs) (filter test xs))) [
  | true ↦ (all.0, all_filter P test xs all.1)
  | false ↦ all_filter P test xs all.1
]

all_map : (files : Files) (fs : Files) → AllByRecursion (λ f. IsSome (file_at files f.0)) fs → AllByRecursion (λ at. IsSome (file_at files at)) (map (λ f. f.0) fs)
all_map files [] all = tt
all_map files (f ∷ fs) all = (all.0, all_map files fs all.1)

pub listed_exist : (files : Files) (root : Place) → AllByRecursion (λ at. IsSome (file_at files at)) (places_under files root)
listed_exist files root = all_map files _ (all_filter (λ f. IsSome (file_at files f.0)) (λ f. is_under f.0 root) files (each_exists files))
