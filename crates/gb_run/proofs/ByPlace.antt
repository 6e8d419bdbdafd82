-- The digests of a map by places, entry by entry.
use Rattle.std.proofs.Common.{◌≡◌, Bool, true, false, not, cond, T, ◌&&◌, ◌||◌, Option, Some, None, List, [], ◌∷◌, ◌++◌, map, refl, sym, ◌∙◌, ap, subst, string_bytes}
use Rattle.std.proofs.lemmas.Bool.{and_parts}
use Rattle.std.proofs.lemmas.List.Elements.{recursion_from_All}
use Rattle.std.specs.Global.{Global}
use Rattle.std.specs.declared.string.String.{String}
use Rattle.std.specs.declared.cmp.Ordering.TheVariants.{Less, Equal, Greater}
use Rattle.std.specs.declared.ops.Bound.TheVariants.{Included, Excluded}
use Rattle.std.specs.BTreeMap.{insert_entry}
use Rattle.std.specs.BTreeMap.Range.{entries_between}
use Rattle.std.specs.String.{string_cmp}
use Rattle.std.specs.Cmp.Lexicographic.{slice_cmp, nat_list_cmp_total, bytes_decides}
use Rattle.std.specs.FinMap.Entries.{put, by_order, is_sorted, is_sorted-where_key, below_all}
use Rattle.std.specs.List.{AllByRecursion}
use Rattle.std.specs.Map.{lookup, remove_entry}
use Rattle.std.specs.Ordering.{nat_cmp, is_eq, is_le, match_ordering}
use Rattle.std.specs.Prelude.{bytes_eq}
use Rattle.gb_core.specs.Place.{is_beneath, is_place, is_under}
use Rattle.gb_core.specs.Lists.{byte_order}
use Rattle.gb_folder.specs.Files.{Place, Bytes, Files, are_placed, file_at, files_under, files_where, places_under, with_file, without}
use Rattle.gb_folder.proofs.Beneath.{between_is_beneath, not_beneath_itself}
use Rattle.gb_folder.proofs.Held.{at_place, equal_from, first_part, none_later, same_place, second_part}
use Rattle.gb_folder.proofs.Listed.{after_root, less_from, places_in_order, places_pass}
use Rattle.gb_tree.specs.Tree.{entries_from, path_from}
use Rattle.gb_tree.proofs.InOrder.{entries_ordered, sorted_alike}
use Rattle.gb_run.specs.Digests.{ByPlace, digests_in}
use Rattle.gb_run.proofs.Digested.{from_root}

abbrev pub Entry : Type 0
Entry = String Global × Bytes

abbrev pub shown : List Entry → Files
shown es = map (λ (e : Entry). (string_bytes e.0, e.1)) es

-- ---- changes

put_shown : (key : String Global) (digest : Bytes) (es : List Entry) → shown (insert_entry string_cmp es key digest) ≡ put byte_order (string_bytes key) digest (shown es)
put_shown key digest [] = refl
put_shown key digest (e ∷ es) =
    elim (slice_cmp nat_cmp (string_bytes key) (string_bytes e.0)) as (λ o.
    shown (match_ordering o ((key, digest) ∷ e ∷ es) ((e.0, digest) ∷ es) (e ∷ insert_entry string_cmp es key digest))
    ≡ by_order o ((string_bytes key, digest) ∷ (string_bytes e.0, e.1) ∷ shown es) ((string_bytes e.0, digest) ∷ shown es) ((string_bytes e.0, e.1) ∷ put byte_order (string_bytes key) digest (shown es))) [
      | Less ↦ refl
      | Equal ↦ refl
      | Greater ↦ ap (λ (files : Files). (string_bytes e.0, e.1) ∷ files) (put_shown key digest es)
    ]

-- a digest is put
pub put_by_place : (held new : ByPlace) (key : String Global) (digest : Bytes) → new.entries ≡ insert_entry string_cmp held.entries key digest
    → digests_in new ≡ with_file (digests_in held) (string_bytes key) digest
put_by_place held new key digest is = ap shown is ∙ put_shown key digest held.entries

take_shown : (place : Place) (es : List Entry) → T (is_sorted byte_order (shown es)) → shown (remove_entry (at_place place) es) ≡ without (shown es) place
take_shown place [] sorted = refl
take_shown place (e ∷ es) sorted =
    elim (at_place place e.0) as (λ b. at_place place e.0 ≡ b → shown (cond b es (e ∷ remove_entry (at_place place) es)) ≡ cond (not b) ((string_bytes e.0, e.1) ∷ without (shown es) place) (without (shown es) place)) [
      | true ↦ λ is. sym (none_later (string_bytes e.0) place (shown es) (equal_from _ is) (first_part _ _ sorted))
      | false ↦ λ is. ap (λ (rest : Files). (string_bytes e.0, e.1) ∷ rest) (take_shown place es (second_part _ _ sorted))
    ] refl
    ∙ ap (λ b. cond (not b) ((string_bytes e.0, e.1) ∷ without (shown es) place) (without (shown es) place)) (sym (same_place (string_bytes e.0) place))

-- a digest is removed
pub take_by_place : (held new : ByPlace) (place : Place) → is_sorted byte_order (digests_in held) ≡ true → new.entries ≡ remove_entry (at_place place) held.entries
    → digests_in new ≡ without (digests_in held) place
take_by_place held new place sorted is = ap shown is ∙ take_shown place held.entries (subst T (sym sorted) tt)

-- so they stay in order, at places
pub sorted_without : (files : Files) (place : Place) → is_sorted byte_order files ≡ true → is_sorted byte_order (without files place) ≡ true
sorted_without files place sorted = so _ (is_sorted-where_key byte_order (λ other. not (bytes_eq other place)) files (subst T (sym sorted) tt))
  where
    so : (b : Bool) → T b → b ≡ true
    so true h = refl
    so false h = absurd h

-- ---- at or under a root

-- what a look-up finds
pub found_at : (place : Place) (es : List Entry) → file_at (shown es) place ≡ lookup (at_place place) es
found_at place [] = refl
found_at place (e ∷ es) = ap (cond (at_place place e.0) (Some e.1)) (found_at place es)

inside_shown : (start end : String Global) (place : Place) (es : List Entry) → string_bytes start ≡ place ++ 47 ∷ [] → string_bytes end ≡ place ++ 48 ∷ []
    → shown (entries_between string_cmp (Included start) (Excluded end) es) ≡ files_where (λ q. is_beneath q place) (shown es)
inside_shown start end place [] at_start at_end = refl
inside_shown start end place (e ∷ es) at_start at_end =
    let file : Place × Bytes = (string_bytes e.0, e.1) in
    let rest : Files = files_where (λ q. is_beneath q place) (shown es) in
    kept (is_le (slice_cmp nat_cmp (string_bytes start) (string_bytes e.0)) && not (is_le (slice_cmp nat_cmp (string_bytes end) (string_bytes e.0)))) e _ rest (inside_shown start end place es at_start at_end)
    ∙ ap (λ (text : Place). cond (is_le (slice_cmp nat_cmp text (string_bytes e.0)) && not (is_le (slice_cmp nat_cmp (string_bytes end) (string_bytes e.0)))) (file ∷ rest) rest) at_start
    ∙ ap (λ (text : Place). cond (is_le (slice_cmp nat_cmp (place ++ 47 ∷ []) (string_bytes e.0)) && not (is_le (slice_cmp nat_cmp text (string_bytes e.0)))) (file ∷ rest) rest) at_end
    ∙ ap (λ b. cond b (file ∷ rest) rest) (between_is_beneath place (string_bytes e.0))
  where
    kept : (b : Bool) (e : Entry) (es : List Entry) (rest : Files) → shown es ≡ rest → shown (cond b (e ∷ es) es) ≡ cond b ((string_bytes e.0, e.1) ∷ rest) rest
    kept true e es rest is = ap (λ (rest : Files). (string_bytes e.0, e.1) ∷ rest) is
    kept false e es rest is = is

-- the digests of a range from `place/` up to `place0` are those under the place
pub inside_by_place : (held : ByPlace) (start end : String Global) (place : Place) (es : List Entry) → string_bytes start ≡ place ++ 47 ∷ [] → string_bytes end ≡ place ++ 48 ∷ []
    → es ≡ entries_between string_cmp (Included start) (Excluded end) held.entries → shown es ≡ files_where (λ q. is_beneath q place) (digests_in held)
inside_by_place held start end place es at_start at_end is = ap shown is ∙ inside_shown start end place held.entries at_start at_end

-- there is nothing at the root after what is at or after it
none_after : (root first : Place) (files : Files) → ((other : Place) → byte_order first other ≡ Less → byte_order root other ≡ Less) → T (below_all byte_order first files) → file_at files root ≡ None
none_after root first [] before below = refl
none_after root first (file ∷ files) before below =
    ap (λ o. cond (is_eq o) (Some file.1) (file_at files root)) (before file.0 (less_from _ (first_part _ _ below))) ∙ none_after root first files before (second_part _ _ below)

-- what is at the root itself
abbrev pub at_root : Place → Option Bytes → Files
at_root root None = []
at_root root (Some bytes) = (root, bytes) ∷ []

abbrev beneath_root : Place → Files → Files
beneath_root root files = files_where (λ place. is_beneath place root) files

-- the files at or under a root: at the root itself, and then those under it
pub root_first : (files : Files) (root : Place) → T (is_sorted byte_order files) → at_root root (file_at files root) ++ files_where (λ place. is_beneath place root) files ≡ files_under files root
root_first [] root sorted = refl
root_first (file ∷ files) root sorted =
    let rest = root_first files root (second_part _ _ sorted) in
    ap (λ b. at_root root (cond b (Some file.1) (file_at files root)) ++ cond (is_beneath file.0 root) (file ∷ beneath_root root files) (beneath_root root files)) (sym (same_place file.0 root))
    ∙ elim (bytes_eq file.0 root) as (λ at. bytes_eq file.0 root ≡ at →
    at_root root (cond at (Some file.1) (file_at files root)) ++ cond (is_beneath file.0 root) (file ∷ beneath_root root files) (beneath_root root files)
    ≡ cond (at || is_beneath file.0 root) (file ∷ files_under files root) (files_under files root)) [
      | true ↦ λ at.
          let same : file.0 ≡ root = (bytes_decides file.0 root).0 at in
          let none : file_at files root ≡ None = none_after root file.0 files (λ other h. ap (λ p. byte_order p other) (sym same) ∙ h) (first_part _ _ sorted) in
          ap (λ b. (root, file.1) ∷ cond b (file ∷ beneath_root root files) (beneath_root root files)) (ap (λ p. is_beneath p root) same ∙ not_beneath_itself root)
          ∙ ap (λ (p : Place). (p, file.1) ∷ beneath_root root files) (sym same)
          ∙ ap (λ (fs : Files). file ∷ fs) (ap (λ (o : Option Bytes). at_root root o ++ beneath_root root files) (sym none) ∙ rest)
      | false ↦ λ at. elim (is_beneath file.0 root) as (λ b. is_beneath file.0 root ≡ b →
          at_root root (file_at files root) ++ cond b (file ∷ beneath_root root files) (beneath_root root files) ≡ cond b (file ∷ files_under files root) (files_under files root)) [
            | true ↦ λ is.
                let none : file_at files root ≡ None = none_after root file.0 files (λ other h. nat_list_cmp_total.trans root file.0 other (after_root file.0 root is) h) (first_part _ _ sorted) in
                ap (λ (o : Option Bytes). at_root root o ++ file ∷ beneath_root root files) none
                ∙ ap (λ (fs : Files). file ∷ fs) (ap (λ (o : Option Bytes). at_root root o ++ beneath_root root files) (sym none) ∙ rest)
            | false ↦ λ is. rest
          ] refl
    ] refl

-- ---- what is left of a range

-- each of these is a place under the root
abbrev pub AreBeneath : Place → List Entry → Type 0
AreBeneath root es = AllByRecursion (λ (e : Entry). (is_place (string_bytes e.0) ≡ true) × (is_beneath (string_bytes e.0) root ≡ true)) es

pub range_beneath : (root : Place) (files : Files) (es : List Entry) → are_placed files ≡ true → shown es ≡ files_where (λ q. is_beneath q root) files → AreBeneath root es
range_beneath root files es placed is = back es (subst (AllByRecursion Good) (sym is) (among files placed))
  where
    Good : Place × Bytes → Type 0
    Good file = (is_place file.0 ≡ true) × (is_beneath file.0 root ≡ true)

    among : (part : Files) → are_placed part ≡ true → AllByRecursion Good (files_where (λ q. is_beneath q root) part)
    among [] good = tt
    among (file ∷ part) good =
        let parts = and_parts (is_place file.0) (are_placed part) good in
        elim (is_beneath file.0 root) as (λ b. is_beneath file.0 root ≡ b → AllByRecursion Good (cond b (file ∷ beneath_root root part) (beneath_root root part))) [
          | true ↦ λ under. ((parts.0, under), among part parts.1)
          | false ↦ λ _. among part parts.1
        ] refl

    back : (es : List Entry) → AllByRecursion Good (shown es) → AreBeneath root es
    back [] all = tt
    back (e ∷ es) all = (all.0, back es all.1)

pub under_from : (place root : Place) → is_beneath place root ≡ true → is_under place root ≡ true
under_from place root is = elim (bytes_eq place root) as (λ b. (b || is_beneath place root) ≡ true) [ true ↦ refl | false ↦ is ]

-- ---- the paths of what is at or under a root are in order

places_good : (files : Files) (root : Place) → are_placed files ≡ true → AllByRecursion (λ place. is_place place ≡ true) (places_under files root)
places_good [] root placed = tt
places_good (file ∷ files) root placed =
    let parts = and_parts (is_place file.0) (are_placed files) placed in
    elim (is_under file.0 root) as (λ b. AllByRecursion (λ place. is_place place ≡ true) (map (λ (f : Place × Bytes). f.0) (cond b (file ∷ files_under files root) (files_under files root)))) [
      | true ↦ (parts.0, places_good files root parts.1)
      | false ↦ places_good files root parts.1
    ]

paths_same : (root : Place) (files : Files) → map (λ (x : Place × Bytes). x.0) (from_root root files) ≡ map (λ (y : Place × Place). y.0) (entries_from root (map (λ (f : Place × Bytes). f.0) files))
paths_same root [] = refl
paths_same root (file ∷ files) = ap (λ (paths : List Place). path_from root file.0 ∷ paths) (paths_same root files)

pub paths_in_order : (files : Files) (root : Place) → is_sorted byte_order files ≡ true → are_placed files ≡ true → is_sorted byte_order (from_root root (files_under files root)) ≡ true
paths_in_order files root sorted placed =
    sorted_alike (from_root root (files_under files root)) (entries_from root (places_under files root)) (paths_same root (files_under files root))
    ∙ entries_ordered root (places_under files root) (places_in_order files root sorted)
    (recursion_from_All (λ place. is_under place root ≡ true) (places_under files root) (places_pass files root)) (places_good files root placed)

-- ---- what is found at a root, and under it

from_both : (root : Place) (xs ys : Files) → from_root root xs ++ from_root root ys ≡ from_root root (xs ++ ys)
from_both root [] ys = refl
from_both root (x ∷ xs) ys = ap (λ (fs : Files). (path_from root x.0, x.1) ∷ fs) (from_both root xs ys)

pub found_so : (held : ByPlace) (root : Place) (found : Files) (es : List Entry) → is_sorted byte_order (digests_in held) ≡ true
    → found ≡ from_root root (at_root root (lookup (at_place root) held.entries)) → shown es ≡ files_where (λ q. is_beneath q root) (digests_in held)
    → found ++ from_root root (shown es) ≡ from_root root (files_under (digests_in held) root)
found_so held root found es sorted here beneath =
    ap (λ (fs : Files). fs ++ from_root root (shown es)) here
    ∙ from_both root (at_root root (lookup (at_place root) held.entries)) (shown es)
    ∙ ap (λ (fs : Files). from_root root (at_root root (lookup (at_place root) held.entries) ++ fs)) beneath
    ∙ ap (λ (o : Option Bytes). from_root root (at_root root o ++ beneath_root root (digests_in held))) (sym (found_at root held.entries))
    ∙ ap (from_root root) (root_first (digests_in held) root (subst T (sym sorted) tt))
