-- What the starts of the roots give is what the roots give.
use Rattle.std.proofs.Common.{arith, ◌≡◌, inl, inr, ℕ, ◌+◌, Bool, true, false, cond, not, ◌||◌, IsTrue, List, [], ◌∷◌, ◌++◌, map, refl, sym, ◌∙◌, ap, subst, append_assoc}
use Rattle.std.proofs.lemmas.Bool.{and_parts, false≢true, or_cases, or_left, or_right}
use Rattle.std.proofs.lemmas.Grind.{flat_map-append}
use Rattle.std.proofs.lemmas.List.{map-append}
use Rattle.std.proofs.lemmas.List.Folds.{list_any-append}
use Rattle.std.proofs.lemmas.List.Sums.{sum_by-append, sum_by-cons}
use Rattle.std.specs.Cmp.Lexicographic.{bytes_decides}
use Rattle.std.specs.List.{AllByRecursion, filter, flat_map, list_any, sum_by}
use Rattle.std.specs.Prelude.{bytes_eq}
use Rattle.gb_core.specs.Place.{is_place, is_under}
use Rattle.gb_folder.specs.Files.{Bytes, Place, Files, is_own, places_under}
use Rattle.gb_tree.specs.Pattern.{prefix_of, path_matches}
use Rattle.gb_tree.specs.Property.{distinct, entries_in, entries_of, entry_order, found, found_from, in_order, is_in, is_under_any, last_segment, lets_in, matches_any, outermost, path_of, places_of, relative_to, start_of, starts_in, starts_of}
use Rattle.gb_tree.specs.Tree.{Entries, path_from}
use Rattle.gb_tree.specs.declared.property.Naming.{Naming}
use Rattle.gb_tree.proofs.Prefixes.{under_prefix}
use Rattle.gb_tree.proofs.Holding.{all_append}
use Rattle.gb_tree.proofs.InOrder.{no_slash_last, past_root}
use Rattle.gb_tree.proofs.Outermost.{all_outermost, one_above, total, under_from, under_under}
use Rattle.gb_tree.proofs.Sorting.{Entry, one_if, same_in_order}
use Rattle.gb_tree.proofs.Under.{IsUnder, own_place, under_parts}

-- ---- The start of a pattern

longer : (root prefix rest : List ℕ) → IsUnder rest prefix → IsUnder (root ++ 47 ∷ rest) (root ++ 47 ∷ prefix)
longer root prefix rest (inl same) = inl (ap (λ t. root ++ 47 ∷ t) same)
longer root prefix rest (inr more) = inr (more.0, ap (λ t. root ++ 47 ∷ t) more.1 ∙ sym (append_assoc root (47 ∷ prefix) (47 ∷ more.0)))

-- the start lies at the root or under it
pub start_under : (root pattern : List ℕ) → is_under (start_of root pattern) root ≡ true
start_under root pattern =
    elim (path_matches pattern (last_segment root) || not (is_place (root ++ 47 ∷ prefix_of pattern))) as (λ b. is_under (cond b root (root ++ 47 ∷ prefix_of pattern)) root ≡ true) [
      | true ↦ own_place root
      | false ↦ under_from (root ++ 47 ∷ prefix_of pattern) root (inr (prefix_of pattern, refl))
    ]

module _ (root pattern place : List ℕ) (under : is_under place root ≡ true) (matched : path_matches pattern (relative_to root place) ≡ true) where
  abbrev begin : List ℕ
  begin = root ++ 47 ∷ prefix_of pattern

  beneath_prefix : (rest : List ℕ) → place ≡ root ++ 47 ∷ rest → path_matches pattern rest ≡ true → is_place begin ≡ true → is_under place begin ≡ true
  beneath_prefix rest is fits good = elim (under_prefix pattern rest fits) [
    | inl none ↦ absurd (no_slash_last root (ap (λ t. is_place (root ++ 47 ∷ t)) (sym none) ∙ good))
    | inr below ↦ under_from place begin (subst (λ (p : List ℕ). IsUnder p begin) (sym is) (longer root (prefix_of pattern) rest (under_parts rest (prefix_of pattern) below)))
  ]

  not_root : (b : Bool) → bytes_eq place root ≡ b → path_matches pattern (last_segment root) ≡ false → path_matches pattern (cond b (last_segment place) (path_from root place)) ≡ true → is_place begin ≡ true → is_under place begin ≡ true
  not_root true same not_named fits good =
      absurd (false≢true (sym not_named ∙ ap (λ p. path_matches pattern (last_segment p)) (sym ((bytes_decides place root).0 same)) ∙ fits))
  not_root false separate not_named fits good = by (under_parts place root under)
    where
      by : IsUnder place root → is_under place begin ≡ true
      by (inl same) = absurd (false≢true (sym separate ∙ (bytes_decides place root).1 same))
      by (inr more) = beneath_prefix more.0 more.1 (ap (path_matches pattern) (sym (ap (path_from root) more.1 ∙ past_root root more.0)) ∙ fits) good

  -- what a pattern lets in is at its start or under it
  under_start : is_under place (start_of root pattern) ≡ true
  under_start = by (path_matches pattern (last_segment root)) (is_place begin) refl refl
    where
      by : (named good : Bool) → path_matches pattern (last_segment root) ≡ named → is_place begin ≡ good → is_under place (cond (named || not good) root begin) ≡ true
      by true good n g = under
      by false false n g = under
      by false true n g = not_root (bytes_eq place root) refl n matched g

-- ---- The starts of a root

any_start : (root place : Place) (include : List (List ℕ)) → is_under place root ≡ true → matches_any include (relative_to root place) ≡ true → list_any (is_under place) (map (start_of root) include) ≡ true
any_start root place [] under matched = absurd (false≢true matched)
any_start root place (pattern ∷ include) under matched = by (path_matches pattern (relative_to root place)) refl matched (λ more. any_start root place include under more)
  where
    or_second : (a b : Bool) → b ≡ true → (a || b) ≡ true
    or_second true b h = refl
    or_second false b h = h

    by : (b : Bool) → path_matches pattern (relative_to root place) ≡ b → (b || matches_any include (relative_to root place)) ≡ true → (matches_any include (relative_to root place) ≡ true → list_any (is_under place) (map (start_of root) include) ≡ true)
        → (is_under place (start_of root pattern) || list_any (is_under place) (map (start_of root) include)) ≡ true
    by true fits h more = ap (λ b. b || list_any (is_under place) (map (start_of root) include)) (under_start root pattern place under fits)
    by false not_fits h more = or_second (is_under place (start_of root pattern)) _ (more h)

not_under : (root place start : Place) → is_under start root ≡ true → is_under place root ≡ false → is_under place start ≡ false
not_under root place start within separate = by (is_under place start) refl
  where
    by : (b : Bool) → is_under place start ≡ b → b ≡ false
    by false is = refl
    by true is = absurd (false≢true (sym separate ∙ under_under place start root is within))

starts_under : (root : Place) (include : List (List ℕ)) → AllByRecursion (λ start. is_under start root ≡ true) (map (start_of root) include)
starts_under root [] = tt
starts_under root (pattern ∷ include) = (start_under root pattern, starts_under root include)

-- each start lies at its root or under it
pub each_under : (include : List (List ℕ)) (root : Place) → AllByRecursion (λ start. is_under start root ≡ true) (starts_of include root)
each_under [] root = (own_place root, tt)
each_under (pattern ∷ include) root =
    all_outermost (map (start_of root) (pattern ∷ include)) root (λ start. is_under start root ≡ true) (starts_under root (pattern ∷ include))

abbrev if_under : ℕ → Place → Place → ℕ
if_under n place start = cond (is_under place start) n 0

none_under : (n : ℕ) (root place : Place) (starts : List Place) → is_under place root ≡ false → AllByRecursion (λ start. is_under start root ≡ true) starts → total (if_under n place) starts ≡ 0
none_under n root place [] separate within = refl
none_under n root place (start ∷ starts) separate within =
    omega (arith, ap (λ b. cond b n 0) (not_under root place start within.0 separate), none_under n root place starts separate within.1)

-- a place that belongs to the property is listed at one of the starts if it is at the root
counted_once : (n : ℕ) (include exclude : List (List ℕ)) (root place : Place) → is_in include exclude root place ≡ true → total (if_under n place) (starts_of include root) ≡ if_under n place root
counted_once n [] exclude root place belongs = omega arith
counted_once n (pattern ∷ include) exclude root place belongs = by (is_under place root) refl
  where
    by : (b : Bool) → is_under place root ≡ b → total (if_under n place) (outermost (map (start_of root) (pattern ∷ include))) ≡ cond b n 0
    by true under =
        let parts = and_parts (not (is_own place)) (lets_in (pattern ∷ include) exclude (relative_to root place)) belongs in
        let let_in = and_parts (matches_any (pattern ∷ include) (relative_to root place)) _ parts.1 in
        one_above (map (start_of root) (pattern ∷ include)) place n (any_start root place (pattern ∷ include) under let_in.0)
    by false separate = none_under n root place (starts_of (pattern ∷ include) root) separate (each_under (pattern ∷ include) root)

-- ---- How often each entry is found

sum_is : {X : Type 0} (f : X → ℕ) (xs : List X) → sum_by f xs ≡ total f xs
sum_is f [] = refl
sum_is f (x ∷ xs) = sum_by-cons f x xs ∙ ap (λ n. f x + n) (sum_is f xs)

total_both : {X : Type 0} (f g : X → ℕ) (xs : List X) → total (λ x. f x + g x) xs ≡ total f xs + total g xs
total_both f g [] = omega arith
total_both f g (x ∷ xs) = omega (arith, total_both f g xs)

total_zero : {X : Type 0} (xs : List X) → total (λ (x : X). 0) xs ≡ 0
total_zero [] = refl
total_zero (x ∷ xs) = omega (arith, total_zero xs)

total_swap : {X Y : Type 0} (f : X → Y → ℕ) (xs : List X) (ys : List Y) → total (λ x. total (f x) ys) xs ≡ total (λ y. total (λ x. f x y) xs) ys
total_swap f [] ys = sym (total_zero ys)
total_swap f (x ∷ xs) ys = ap (λ n. total (f x) ys + n) (total_swap f xs ys) ∙ sym (total_both (f x) (λ y. total (λ x. f x y) xs) ys)

total_same : {X : Type 0} (f g : X → ℕ) (xs : List X) → ((x : X) → f x ≡ g x) → total f xs ≡ total g xs
total_same f g [] same = refl
total_same f g (x ∷ xs) same = omega (arith, same x, total_same f g xs same)

module _ (naming : Naming) (include exclude : List (List ℕ)) (files : Files) (sought : Entry) where
  abbrev count : Entries → ℕ
  count entries = sum_by (λ other. one_if (entry_order sought other)) entries

  abbrev listing : Place → Place → Entries
  listing root start = entries_in naming include exclude root (places_under files start)

  -- as often as the entry of one place counts, if it belongs to the property
  abbrev weight : Place → Place → ℕ
  weight root place = cond (is_in include exclude root place) (one_if (entry_order sought (path_of naming root place, place))) 0

  counted : (root at : Place) (some : Files) → count (entries_in naming include exclude root (places_under some at)) ≡ total (λ file. if_under (weight root file.0) file.0 at) some
  counted root at [] = refl
  counted root at (file ∷ some) = by (is_under file.0 at) (counted root at some)
    where
      here : (b : Bool) → count (entries_in naming include exclude root (places_under some at)) ≡ total (λ file. if_under (weight root file.0) file.0 at) some
          → count (map (λ place. (path_of naming root place, place)) (cond b (file.0 ∷ filter (is_in include exclude root) (places_under some at)) (filter (is_in include exclude root) (places_under some at))))
          ≡ cond b (one_if (entry_order sought (path_of naming root file.0, file.0))) 0 + total (λ file. if_under (weight root file.0) file.0 at) some
      here true more = sum_by-cons (λ other. one_if (entry_order sought other)) (path_of naming root file.0, file.0) (entries_in naming include exclude root (places_under some at)) ∙ ap (λ n. one_if (entry_order sought (path_of naming root file.0, file.0)) + n) more
      here false more = omega (arith, more)

      by : (under : Bool) → count (entries_in naming include exclude root (places_under some at)) ≡ total (λ file. if_under (weight root file.0) file.0 at) some
          → count (entries_in naming include exclude root (map (λ (file : Place × Bytes). file.0) (cond under (file ∷ filter (λ (file : Place × Bytes). is_under file.0 at) some) (filter (λ (file : Place × Bytes). is_under file.0 at) some))))
          ≡ cond under (weight root file.0) 0 + total (λ file. if_under (weight root file.0) file.0 at) some
      by true more = here (is_in include exclude root file.0) more
      by false more = omega (arith, more)

  counted_all : (root : Place) (starts : List Place) → count (flat_map (listing root) starts) ≡ total (λ start. count (listing root start)) starts
  counted_all root [] = refl
  counted_all root (start ∷ starts) = sum_by-append (λ other. one_if (entry_order sought other)) (listing root start) (flat_map (listing root) starts) ∙ ap (λ n. count (listing root start) + n) (counted_all root starts)

  weighed : (root place : Place) → total (if_under (weight root place) place) (starts_of include root) ≡ if_under (weight root place) place root
  weighed root place = by (is_in include exclude root place) refl
    where
      nothing : (starts : List Place) → total (if_under 0 place) starts ≡ 0
      nothing [] = refl
      nothing (start ∷ starts) = omega (arith, neither (is_under place start), nothing starts)
        where
          neither : (b : Bool) → ◌≡◌ {A = ℕ} (cond b 0 0) 0
          neither true = refl
          neither false = refl

      none : (b : Bool) → ◌≡◌ {A = ℕ} (cond b 0 0) 0
      none true = refl
      none false = refl

      by : (b : Bool) → is_in include exclude root place ≡ b → total (if_under (cond b (one_if (entry_order sought (path_of naming root place, place))) 0) place) (starts_of include root) ≡ if_under (cond b (one_if (entry_order sought (path_of naming root place, place))) 0) place root
      by true belongs = counted_once _ include exclude root place belongs
      by false _ = nothing (starts_of include root) ∙ sym (none (is_under place root))

  of_root : (root : Place) → count (flat_map (listing root) (starts_of include root)) ≡ count (listing root root)
  of_root root =
      counted_all root (starts_of include root)
      ∙ total_same (λ start. count (listing root start)) (λ start. total (λ file. if_under (weight root file.0) file.0 start) files) (starts_of include root) (λ start. counted root start files)
      ∙ total_swap (λ start (file : Place × Bytes). if_under (weight root file.0) file.0 start) (starts_of include root) files
      ∙ total_same (λ file. total (if_under (weight root file.0) file.0) (starts_of include root)) (λ file. if_under (weight root file.0) file.0 root) files (λ file. weighed root file.0)
      ∙ sym (counted root root files)

  of_map : (root : Place) (starts : List Place) → found_from naming include exclude files (map (λ start. (root, start)) starts) ≡ flat_map (listing root) starts
  of_map root [] = refl
  of_map root (start ∷ starts) = ap (λ es. listing root start ++ es) (of_map root starts)

  of_roots : (roots : List Place) → count (found_from naming include exclude files (starts_in include roots)) ≡ count (found naming include exclude files roots)
  of_roots [] = refl
  of_roots (root ∷ roots) =
      let test : Entry → ℕ = λ other. one_if (entry_order sought other) in
      let here = map (λ start. (root, start)) (starts_of include root) in
      ap count (flat_map-append (λ (start : Place × Place). listing start.0 start.1) here (starts_in include roots))
      ∙ sum_by-append test (found_from naming include exclude files here) (found_from naming include exclude files (starts_in include roots))
      ∙ ap (λ n. n + count (found_from naming include exclude files (starts_in include roots))) (ap count (of_map root (starts_of include root)) ∙ of_root root)
      ∙ ap (λ n. count (listing root root) + n) (of_roots roots)
      ∙ sym (sum_by-append test (listing root root) (found naming include exclude files roots))

-- in order, the entries that the starts give are those of the property
pub found_in_order : (naming : Naming) (roots : List Place) (include exclude : List (List ℕ)) (files : Files)
    → in_order (found_from naming include exclude files (starts_in include (distinct roots))) ≡ entries_of naming roots include exclude files
found_in_order naming roots include exclude files =
    same_in_order (found_from naming include exclude files (starts_in include (distinct roots))) (found naming include exclude files (distinct roots))
    (λ entry. of_roots naming include exclude files entry (distinct roots))

-- ---- Under the roots

with_root : (root : Place) (starts : List Place) → AllByRecursion (λ start. IsTrue (is_under start root)) starts → AllByRecursion (λ (start : Place × Place). IsTrue (is_under start.1 start.0)) (map (λ start. (root, start)) starts)
with_root root [] all = tt
with_root root (start ∷ starts) all = (all.0, with_root root starts all.1)

-- each of the starts lies at its root or under it
pub starts_within : (include : List (List ℕ)) (roots : List Place) → AllByRecursion (λ (start : Place × Place). IsTrue (is_under start.1 start.0)) (starts_in include roots)
starts_within include [] = tt
starts_within include (root ∷ roots) =
    all_append (λ (start : Place × Place). IsTrue (is_under start.1 start.0)) (map (λ start. (root, start)) (starts_of include root)) (starts_in include roots)
    (with_root root (starts_of include root) (each_under include root)) (starts_within include roots)

of_one : (root at : Place) (starts : List Place) → AllByRecursion (λ start. is_under start root ≡ true) starts → list_any (is_under at) starts ≡ true → is_under at root ≡ true
of_one root at [] all h = absurd (false≢true h)
of_one root at (start ∷ starts) all h = elim (or_cases (is_under at start) (list_any (is_under at) starts) h) [
  | inl here ↦ under_under at start root here all.0
  | inr later ↦ of_one root at starts all.1 later
]

places_again : (root : Place) (starts : List Place) → places_of (map (λ start. (root, start)) starts) ≡ starts
places_again root [] = refl
places_again root (start ∷ starts) = ap (λ places. start ∷ places) (places_again root starts)

-- what lies under one of the starts lies under one of the roots
pub beneath_roots : (include : List (List ℕ)) (roots : List Place) (at : Place) → IsTrue (is_under_any (places_of (starts_in include roots)) at) → IsTrue (is_under_any roots at)
beneath_roots include [] at h = h
beneath_roots include (root ∷ roots) at h =
    let here = map (λ start. (root, start)) (starts_of include root) in
    let split : list_any (is_under at) (places_of (here ++ starts_in include roots)) ≡ (list_any (is_under at) (starts_of include root) || is_under_any (places_of (starts_in include roots)) at) =
    ap (list_any (is_under at)) (map-append (λ (start : Place × Place). start.1) here (starts_in include roots))
    ∙ list_any-append (is_under at) (places_of here) (places_of (starts_in include roots))
    ∙ ap (λ places. list_any (is_under at) places || is_under_any (places_of (starts_in include roots)) at) (places_again root (starts_of include root)) in
    elim (or_cases (list_any (is_under at) (starts_of include root)) (is_under_any (places_of (starts_in include roots)) at) (sym split ∙ h)) [
      | inl first ↦ or_left (is_under at root) (is_under_any roots at) (of_one root at (starts_of include root) (each_under include root) first)
      | inr later ↦ or_right (is_under at root) (is_under_any roots at) (beneath_roots include roots at later)
    ]
