-- What the roots of a property give.
use Rattle.std.proofs.Common.{arith, ◌≡◌, ◌<◌, ◌+◌, ℕ, zero, suc, length, get_or, Bool, true, false, cond, not, ◌||◌, List, [], ◌∷◌, ◌++◌, refl, sym, ◌∙◌, ap, subst, IsTrue}
use Rattle.std.proofs.lemmas.List.Elements.{filter-append, recursion_from_All}
use Rattle.std.proofs.lemmas.List.Folds.{list_any-append}
use Rattle.std.proofs.lemmas.Map.Text.{is_eq-slice_cmp}
use Rattle.std.specs.Cmp.Lexicographic.{bytes_decides}
use Rattle.std.specs.List.{AllByRecursion, AllPass, filter, list_any}
use Rattle.std.specs.Ordering.{eq_by_cmp}
use Rattle.std.specs.Prelude.{IsSome, bytes_eq}
use Rattle.gb_core.specs.Lists.{byte_order}
use Rattle.gb_core.specs.Place.{is_under}
use Rattle.gb_folder.specs.Files.{Place, Files, file_at, places_under}
use Rattle.gb_folder.specs.Limits.{max_files}
use Rattle.gb_tree.specs.Tree.{Entries}
use Rattle.gb_tree.specs.Property.{distinct, entries_in, entries_of, found, held, is_in, is_under_any, path_of, places_of}
use Rattle.gb_tree.specs.declared.property.Naming.{Naming}
use Rattle.gb_tree.proofs.Holding.{all_append, all_take, all_wider, at_places}
use Rattle.gb_tree.proofs.InOrder.{all_filter, listed_exist}
use Rattle.gb_tree.proofs.Loops.{with_none}
use Rattle.gb_tree.proofs.Outermost.{under_under}
use Rattle.gb_tree.proofs.Sorting.{all_in_order}
use Rattle.gb_tree.proofs.Reported.{Exist, with_paths}

-- ---- Each place once

abbrev others : Place → List Place → List Place
others place places = filter (λ other. not (bytes_eq place other)) places

abbrev exists_in : Place → List Place → Bool
exists_in place places = list_any (λ other. bytes_eq other place) places

still_in : (x y : Place) (places : List Place) → bytes_eq y x ≡ false → exists_in x (others y places) ≡ exists_in x places
still_in x y [] separate = refl
still_in x y (z ∷ places) separate = elim (bytes_eq y z) as (λ b. bytes_eq y z ≡ b → exists_in x (cond (not b) (z ∷ others y places) (others y places)) ≡ (bytes_eq z x || exists_in x places)) [
  | true ↦ λ is. still_in x y places separate ∙ ap (λ b. b || exists_in x places) (sym (ap (λ w. bytes_eq w x) (sym ((bytes_decides y z).0 is)) ∙ separate))
  | false ↦ λ is. ap (λ b. bytes_eq z x || b) (still_in x y places separate)
] refl

pub distinct_more : (places : List Place) (x : Place) → distinct (places ++ x ∷ []) ≡ cond (exists_in x (distinct places)) (distinct places) (distinct places ++ x ∷ [])
distinct_more [] x = refl
distinct_more (y ∷ places) x =
    ap (λ ps. y ∷ others y ps) (distinct_more places x) ∙ by (bytes_eq y x) (exists_in x (distinct places)) refl refl
  where
    by : (same within : Bool) → bytes_eq y x ≡ same → exists_in x (distinct places) ≡ within
        → y ∷ others y (cond within (distinct places) (distinct places ++ x ∷ [])) ≡ cond (same || exists_in x (others y (distinct places))) (y ∷ others y (distinct places)) (y ∷ others y (distinct places) ++ x ∷ [])
    by true true is has = refl
    by true false is has =
        ap (λ ps. y ∷ ps) (filter-append (λ other. not (bytes_eq y other)) (distinct places) (x ∷ [])
        ∙ ap (λ b. others y (distinct places) ++ cond (not b) (x ∷ []) []) is ∙ with_none (others y (distinct places)))
    by false true is has = sym (ap (λ b. cond b (y ∷ others y (distinct places)) (y ∷ others y (distinct places) ++ x ∷ [])) (still_in x y (distinct places) is ∙ has))
    by false false is has =
        ap (λ ps. y ∷ ps) (filter-append (λ other. not (bytes_eq y other)) (distinct places) (x ∷ [])
        ∙ ap (λ b. others y (distinct places) ++ cond (not b) (x ∷ []) []) is)
        ∙ sym (ap (λ b. cond b (y ∷ others y (distinct places)) (y ∷ others y (distinct places) ++ x ∷ [])) (still_in x y (distinct places) is ∙ has))

-- the first occurrence is kept
pub distinct_next : (places : List Place) (x : Place) (added : Bool) → added ≡ not (exists_in x (distinct places)) → distinct (places ++ x ∷ []) ≡ cond added (distinct places ++ x ∷ []) (distinct places)
distinct_next places x added is =
    distinct_more places x
    ∙ turned (exists_in x (distinct places)) (distinct places) (distinct places ++ x ∷ [])
    ∙ ap (λ b. cond b (distinct places ++ x ∷ []) (distinct places)) (sym is)
  where
    turned : (b : Bool) (kept more : List Place) → cond b kept more ≡ cond (not b) more kept
    turned true kept more = refl
    turned false kept more = refl

-- a set that has what is kept adds the next
pub met_next : (places : List Place) (x other : Place) (before after : Bool) → before ≡ exists_in other (distinct places) → after ≡ cond (eq_by_cmp byte_order x other) true before
    → after ≡ exists_in other (distinct (places ++ x ∷ []))
met_next places x other before after had now =
    now
    ∙ ap (λ b. cond b true before) (is_eq-slice_cmp x other)
    ∙ either (bytes_eq x other) before
    ∙ ap (λ b. b || bytes_eq x other) had
    ∙ by (exists_in x (distinct places)) refl
    ∙ sym (ap (exists_in other) (distinct_more places x))
  where
    either : (b before : Bool) → cond b true before ≡ (before || b)
    either true true = refl
    either true false = refl
    either false true = refl
    either false false = refl

    none_more : (b : Bool) → (b || false) ≡ b
    none_more true = refl
    none_more false = refl

    still : (b : Bool) → bytes_eq x other ≡ b → exists_in x (distinct places) ≡ true → (exists_in other (distinct places) || b) ≡ exists_in other (distinct places)
    still true same has =
        let here : exists_in other (distinct places) ≡ true = sym (ap (λ place. exists_in place (distinct places)) ((bytes_decides x other).0 same)) ∙ has in
        ap (λ b. b || true) here ∙ sym here
    still false separate has = none_more (exists_in other (distinct places))

    by : (b : Bool) → exists_in x (distinct places) ≡ b → (exists_in other (distinct places) || bytes_eq x other) ≡ exists_in other (cond b (distinct places) (distinct places ++ x ∷ []))
    by true has = still (bytes_eq x other) refl has
    by false has =
        ap (λ b. exists_in other (distinct places) || b) (sym (none_more (bytes_eq x other)))
        ∙ sym (list_any-append (λ place. bytes_eq place other) (distinct places) (x ∷ []))

any_way : (a b : Bool) → IsTrue b → IsTrue (a || b)
any_way true b h = refl
any_way false b h = h

of_all : (place : Place) (kept : List Place) (at : Place) → IsTrue (is_under_any (others place kept) at) → IsTrue (is_under_any kept at)
of_all place [] at h = h
of_all place (other ∷ kept) at h =
    elim (bytes_eq place other) as (λ b. IsTrue (is_under_any (cond (not b) (other ∷ others place kept) (others place kept)) at) → IsTrue (is_under at other || is_under_any kept at)) [
      | true ↦ λ more. any_way (is_under at other) (is_under_any kept at) (of_all place kept at more)
      | false ↦ λ all. elim (is_under at other) as (λ b. IsTrue (b || is_under_any (others place kept) at) → IsTrue (b || is_under_any kept at)) [
        | true ↦ λ _. refl
        | false ↦ λ more. of_all place kept at more
      ] all
    ] h

-- a place at or under one of the starts
pub under_start : (starts : List (Place × Place)) (i : ℕ) (start : Place × Place) (at : Place) → i < length starts → start ≡ get_or starts i start → IsTrue (is_under at start.1) → IsTrue (is_under_any (places_of starts) at)
under_start [] i start at within is h = absurd (omega (arith, within))
under_start (other ∷ starts) zero start at within is h = ap (λ b. b || is_under_any (places_of starts) at) (ap (λ (next : Place × Place). is_under at next.1) (sym is) ∙ h)
under_start (other ∷ starts) (suc i) start at within is h = any_way (is_under at other.1) (is_under_any (places_of starts) at) (under_start starts i start at (omega (arith, within)) is h)

-- a place under one of the places that are kept is under one of all
pub distinct_under : (places : List Place) (at : Place) → IsTrue (is_under_any (distinct places) at) → IsTrue (is_under_any places at)
distinct_under [] at h = h
distinct_under (place ∷ places) at h =
    elim (is_under at place) as (λ b. IsTrue (b || is_under_any (others place (distinct places)) at) → IsTrue (b || is_under_any places at)) [
      | true ↦ λ _. refl
      | false ↦ λ more. distinct_under places at (of_all place (distinct places) at more)
    ] h

-- ---- Each of the files exists

found_each : (naming : Naming) (include exclude : List (List ℕ)) (files : Files) (roots : List Place) → Exist files (found naming include exclude files roots)
found_each naming include exclude files [] = tt
found_each naming include exclude files (root ∷ roots) =
    all_append (λ entry. IsSome (file_at files entry.1)) (entries_in naming include exclude root (places_under files root)) (found naming include exclude files roots)
    (with_paths files (path_of naming root) (filter (is_in include exclude root) (places_under files root)) (all_filter (λ at. IsSome (file_at files at)) (is_in include exclude root) (places_under files root) (listed_exist files root)))
    (found_each naming include exclude files roots)

pub found_exist : (naming : Naming) (roots : List Place) (include exclude : List (List ℕ)) (files : Files) → Exist files (entries_of naming roots include exclude files)
found_exist naming roots include exclude files =
    all_in_order (λ entry. IsSome (file_at files entry.1)) (found naming include exclude files (distinct roots)) (found_each naming include exclude files (distinct roots))

-- what is taken in from one start lies under it
pub taken_beneath : (naming : Naming) (include exclude : List (List ℕ)) (starts : List (Place × Place)) (i : ℕ) (start : Place × Place) (places read : List Place) (kept new : Entries) → i < length starts → start ≡ get_or starts i start
    → read ≡ places → AllPass (λ at. is_under at start.1) places → new ≡ held (kept ++ entries_in naming include exclude start.0 read)
    → AllByRecursion (λ entry. IsTrue (is_under_any (places_of starts) entry.1)) kept → AllByRecursion (λ entry. IsTrue (is_under_any (places_of starts) entry.1)) new
taken_beneath naming include exclude starts i start places read kept new within is same under taken all =
    let here = entries_in naming include exclude start.0 read in
    let each = all_wider (λ at. is_under at start.1 ≡ true) (λ at. IsTrue (is_under_any (places_of starts) at)) read (λ at. under_start starts i start at within is)
    (recursion_from_All (λ at. is_under at start.1 ≡ true) read (subst (λ (ps : List Place). AllPass (λ at. is_under at start.1) ps) (sym same) under)) in
    subst (λ (es : Entries). AllByRecursion (λ entry. IsTrue (is_under_any (places_of starts) entry.1)) es) (sym taken)
    (all_take _ (max_files + 1) (kept ++ here) (all_append _ kept here all
    (at_places (λ at. IsTrue (is_under_any (places_of starts) at)) (path_of naming start.0) (filter (is_in include exclude start.0) read) (all_filter _ (is_in include exclude start.0) read each))))

-- what lies under a start lies under its root
pub all_of_root : (root start : Place) (places : List Place) → IsTrue (is_under start root) → AllPass (λ at. is_under at start) places → AllPass (λ at. is_under at root) places
all_of_root root start places within all = λ i d below. under_under (get_or places i d) start root (all i d below) within
