-- The files of a property are those whose places it includes.
use Rattle.std.proofs.Common.{◌≡◌, ℕ, Bool, true, false, cond, not, ◌&&◌, ◌||◌, List, [], ◌∷◌, refl, sym, ap, ◌∙◌}
use Rattle.std.proofs.lemmas.Bool.{false≢true}
use Rattle.std.proofs.lemmas.Map.Views.{any-filter_same}
use Rattle.std.specs.List.{filter, flat_map, list_any}
use Rattle.std.specs.Ordering.{is_lt}
use Rattle.std.specs.Prelude.{bytes_eq, is_some}
use Rattle.std.specs.Cmp.Lexicographic.{bytes_decides}
use Rattle.gb_core.specs.Place.{is_under}
use Rattle.gb_core.proofs.Found.{find-other, find-same}
use Rattle.gb_folder.specs.Files.{Bytes, Files, Place, file_at, files_under, places_under}
use Rattle.gb_plan.proofs.Tests.{any_append, any_map}
use Rattle.gb_plan.specs.declared.task.FileProperty.{FileProperty}
use Rattle.gb_tree.specs.Property.{distinct, entries_in, entry_order, found, in_order, inserted, is_in, path_of}
use Rattle.gb_tree.specs.Tree.{Entries, is_among}
use Rattle.gb_query.specs.Laws.{FilesAreTakenIn}
use Rattle.gb_query.specs.Membership.{takes_in, takes_in_from}

-- ---- Tests on lists

any_filter : {X : Type 0} (p q : X → Bool) (xs : List X) → list_any p (filter q xs) ≡ list_any (λ x. q x && p x) xs
any_filter p q [] = refl
any_filter p q (x ∷ xs) =
    elim (q x) as (λ b. list_any p (cond b (x ∷ filter q xs) (filter q xs)) ≡ ((b && p x) || list_any (λ x. q x && p x) xs)) [
      | true ↦ ap (λ r. p x || r) (any_filter p q xs)
      | false ↦ any_filter p q xs
    ]

any_flat : {X Y : Type 0} (p : Y → Bool) (f : X → List Y) (xs : List X) → list_any p (flat_map f xs) ≡ list_any (λ x. list_any p (f x)) xs
any_flat p f [] = refl
any_flat p f (x ∷ xs) = any_append p (f x) (flat_map f xs) ∙ ap (λ r. list_any p (f x) || r) (any_flat p f xs)

any_same : {X : Type 0} (p q : X → Bool) → ((x : X) → p x ≡ q x) → (xs : List X) → list_any p xs ≡ list_any q xs
any_same p q same [] = refl
any_same p q same (x ∷ xs) = ap (λ b. b || list_any p xs) (same x) ∙ ap (λ r. q x || r) (any_same p q same xs)

-- what does not depend on the element
none_passes : {X : Type 0} (xs : List X) → list_any (λ x. false) xs ≡ false
none_passes [] = refl
none_passes (x ∷ xs) = none_passes xs

any_beside : {X : Type 0} (b : Bool) (p : X → Bool) (xs : List X) → list_any (λ x. b && p x) xs ≡ (b && list_any p xs)
any_beside true p xs = refl
any_beside false p xs = none_passes xs

any_both : {X : Type 0} (p : X → Bool) (b : Bool) (xs : List X) → list_any (λ x. p x && b) xs ≡ (list_any p xs && b)
any_both p b [] = refl
any_both p b (x ∷ xs) = ap (λ r. (p x && b) || r) (any_both p b xs) ∙ by (p x) b (list_any p xs)
  where
    by : (x y r : Bool) → ((x && y) || (r && y)) ≡ ((x || r) && y)
    by true true r = refl
    by true false true = refl
    by true false false = refl
    by false y r = refl

-- ---- What is sorted, and what is named twice

any_inserted : (p : List ℕ × Place → Bool) (entry : List ℕ × Place) (entries : Entries) → list_any p (inserted entry entries) ≡ (p entry || list_any p entries)
any_inserted p entry [] = refl
any_inserted p entry (other ∷ others) =
    elim (is_lt (entry_order other entry)) as (λ b. list_any p (cond b (other ∷ inserted entry others) (entry ∷ other ∷ others)) ≡ (p entry || (p other || list_any p others))) [
      | true ↦ ap (λ r. p other || r) (any_inserted p entry others) ∙ swap (p other) (p entry) (list_any p others)
      | false ↦ refl
    ]
  where
    swap : (a b c : Bool) → (a || (b || c)) ≡ (b || (a || c))
    swap true true c = refl
    swap true false c = refl
    swap false b c = refl

any_in_order : (p : List ℕ × Place → Bool) (entries : Entries) → list_any p (in_order entries) ≡ list_any p entries
any_in_order p [] = refl
any_in_order p (entry ∷ entries) = any_inserted p entry (in_order entries) ∙ ap (λ r. p entry || r) (any_in_order p entries)

any_distinct : (p : Place → Bool) (places : List Place) → list_any p (distinct places) ≡ list_any p places
any_distinct p [] = refl
any_distinct p (place ∷ places) = by (any_distinct p places) (p place) refl
  where
    separate : (other : Place) → p place ≡ false → p other ≡ true → (b : Bool) → bytes_eq place other ≡ b → not b ≡ true
    separate other fails passes true same = absurd (false≢true (sym fails ∙ ap p ((bytes_decides place other).0 same) ∙ passes))
    separate other fails passes false same = refl

    by : list_any p (distinct places) ≡ list_any p places → (b : Bool) → p place ≡ b → (b || list_any p (filter (λ other. not (bytes_eq place other)) (distinct places))) ≡ (b || list_any p places)
    by rest true is = refl
    by rest false is = any-filter_same p (λ other. not (bytes_eq place other)) true (λ other passes. separate other is passes (bytes_eq place other) refl) (distinct places) ∙ rest

-- ---- The files of a root

abbrev is_at : Place → Place × Bytes → Bool
is_at place file = bytes_eq file.0 place

module _ (property : FileProperty) (files : Files) (place root : Place) where
  abbrev within : Place → Bool
  within other = is_in property.include property.exclude root other

  here : (other : Place) (b : Bool) → bytes_eq other place ≡ b → (is_under other root && (within other && b)) ≡ ((is_under place root && within place) && b)
  here other true same =
      ap (λ p. is_under p root && (within p && true)) ((bytes_decides other place).0 same) ∙ regroup (is_under place root) (within place)
    where
      regroup : (a b : Bool) → (a && (b && true)) ≡ ((a && b) && true)
      regroup true b = refl
      regroup false b = refl
  here other false same = none (is_under other root) (within other) ∙ sym (never (is_under place root && within place))
    where
      never : (a : Bool) → (a && false) ≡ false
      never true = refl
      never false = refl

      none : (a b : Bool) → (a && (b && false)) ≡ false
      none true true = refl
      none true false = refl
      none false b = refl

  among_root : is_among (entries_in property.naming property.include property.exclude root (places_under files root)) place ≡ (takes_in_from property place root && list_any (is_at place) files)
  among_root =
      any_map (λ entry. bytes_eq entry.1 place) (λ other. (path_of property.naming root other, other)) (filter within (places_under files root))
      ∙ any_filter (λ other. bytes_eq other place) within (places_under files root)
      ∙ any_map (λ other. within other && bytes_eq other place) (λ file. file.0) (files_under files root)
      ∙ any_filter (λ file. within file.0 && bytes_eq file.0 place) (λ file. is_under file.0 root) files
      ∙ any_same (λ file. is_under file.0 root && (within file.0 && bytes_eq file.0 place)) (λ file. takes_in_from property place root && is_at place file) (λ file. here file.0 (bytes_eq file.0 place) refl) files
      ∙ any_beside (takes_in_from property place root) (is_at place) files

found_at : (place : Place) (files : Files) → list_any (is_at place) files ≡ is_some (file_at files place)
found_at place [] = refl
found_at place (file ∷ files) = by (found_at place files) (bytes_eq file.0 place) refl
  where
    by : list_any (is_at place) files ≡ is_some (file_at files place) → (b : Bool) → bytes_eq file.0 place ≡ b → (b || list_any (is_at place) files) ≡ is_some (file_at (file ∷ files) place)
    by rest true same = ap is_some (sym (find-same place file files ((bytes_decides file.0 place).0 same)))
    by rest false other = rest ∙ ap is_some (sym (find-other place file files (λ same. false≢true (sym other ∙ (bytes_decides file.0 place).1 same))))

pub taken_in : FilesAreTakenIn
taken_in property files place =
    let at : List ℕ × Place → Bool = λ entry. bytes_eq entry.1 place in
    let of_root : Place → Entries = λ root. entries_in property.naming property.include property.exclude root (places_under files root) in
    let has = list_any (is_at place) files in
    any_in_order at (found property.naming property.include property.exclude files (distinct property.roots))
    ∙ any_flat at of_root (distinct property.roots)
    ∙ any_distinct (λ root. list_any at (of_root root)) property.roots
    ∙ any_same (λ root. list_any at (of_root root)) (λ root. takes_in_from property place root && has) (among_root property files place) property.roots
    ∙ any_both (takes_in_from property place) has property.roots
    ∙ ap (λ b. takes_in property place && b) (found_at place files)
