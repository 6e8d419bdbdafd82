-- The digests of files, as the files change and as they are at outputs.
use Rattle.std.proofs.Common.{◌≡◌, ℕ, Bool, true, false, cond, List, [], ◌∷◌, map, Option, Some, refl, sym, ◌∙◌, ap}
use Rattle.std.proofs.lemmas.Bool.{and_parts}
use Rattle.std.specs.Prelude.{unwrap_or}
use Rattle.std.specs.List.{AllByRecursion}
use Rattle.std.specs.Ordering.{is_lt}
use Rattle.std.specs.declared.cmp.Ordering.TheVariants.{Less, Equal, Greater}
use Rattle.std.specs.FinMap.Entries.{by_order, below_all, is_sorted}
use Rattle.sha2.specs.Sha256.{sha256}
use Rattle.gb_core.specs.Lists.{byte_order}
use Rattle.gb_core.proofs.Found.{find-other, find-same, same_tied}
use Rattle.gb_core.specs.Place.{is_under}
use Rattle.gb_folder.specs.Files.{Place, Bytes, Files, file_at, files_under, files_where, is_own, with_file}
use Rattle.gb_tree.specs.Prints.{digests_of}
use Rattle.gb_tree.specs.Tree.{contents_at, entries_from, files_from, path_from}
use Rattle.gb_tree.proofs.Digests.{sorted_digests}
use Rattle.gb_tree.proofs.InOrder.{all_filter, is_less}

-- ---- changes

-- a file is put
pub with_digest : (files : Files) (place bytes : List ℕ) → digests_of (with_file files place bytes) ≡ with_file (digests_of files) place (sha256 bytes)
with_digest [] place bytes = refl
with_digest (file ∷ files) place bytes =
    elim (byte_order place file.0) as (λ o.
    digests_of (by_order o ((place, bytes) ∷ file ∷ files) ((file.0, bytes) ∷ files) (file ∷ with_file files place bytes))
    ≡ by_order o ((place, sha256 bytes) ∷ digests_of (file ∷ files)) ((file.0, sha256 bytes) ∷ digests_of files) ((file.0, sha256 file.1) ∷ with_file (digests_of files) place (sha256 bytes))) [
      | Less ↦ refl
      | Equal ↦ refl
      | Greater ↦ ap (λ (fs : Files). (file.0, sha256 file.1) ∷ fs) (with_digest files place bytes)
    ]

-- the files that pass a test
pub where_digests : (test : Place → Bool) (files : Files) → digests_of (files_where test files) ≡ files_where test (digests_of files)
where_digests test [] = refl
where_digests test (file ∷ files) =
    elim (test file.0) as (λ b. digests_of (cond b (file ∷ files_where test files) (files_where test files)) ≡ cond b ((file.0, sha256 file.1) ∷ files_where test (digests_of files)) (files_where test (digests_of files))) [
      | true ↦ ap (λ (fs : Files). (file.0, sha256 file.1) ∷ fs) (where_digests test files)
      | false ↦ where_digests test files
    ]

-- ---- the files at or under a place

-- files by their paths from a root
abbrev pub from_root : Place → Files → Files
from_root root files = map (λ (file : Place × Bytes). (path_from root file.0, file.1)) files

-- each file in order is found
pub each_found : (files : Files) → is_sorted byte_order files ≡ true → AllByRecursion (λ (file : Place × Bytes). file_at files file.0 ≡ Some file.1) files
each_found [] sorted = tt
each_found (first ∷ files) sorted =
    let parts = and_parts (below_all byte_order first.0 files) (is_sorted byte_order files) sorted in
    (find-same first.0 first files refl, still files parts.0 (each_found files parts.1))
  where
    still : (part : Files) → below_all byte_order first.0 part ≡ true → AllByRecursion (λ (file : Place × Bytes). file_at files file.0 ≡ Some file.1) part
        → AllByRecursion (λ (file : Place × Bytes). file_at (first ∷ files) file.0 ≡ Some file.1) part
    still [] below all = tt
    still (file ∷ part) below all =
        let parts = and_parts (is_lt (byte_order first.0 file.0)) (below_all byte_order first.0 part) below in (
          find-other file.0 first files (λ same. let e : Less ≡ Equal = sym (is_less _ parts.0) ∙ same_tied first.0 file.0 same in absurd (cc)) ∙ all.0,
          still part parts.1 all.1,
        )

by_paths : (root : Place) (files part : Files) → AllByRecursion (λ (file : Place × Bytes). file_at files file.0 ≡ Some file.1) part
    → contents_at files (entries_from root (map (λ (file : Place × Bytes). file.0) part)) ≡ from_root root part
by_paths root files [] all = refl
by_paths root files (file ∷ part) all =
    ap (λ (b : Bytes). (path_from root file.0, b) ∷ contents_at files (entries_from root (map (λ (f : Place × Bytes). f.0) part))) (bytes_is (file_at files file.0) file.1 all.0)
    ∙ ap (λ (fs : Files). (path_from root file.0, file.1) ∷ fs) (by_paths root files part all.1)
  where
    bytes_is : (o : Option Bytes) (b : Bytes) → o ≡ Some b → unwrap_or o [] ≡ b
    bytes_is o b e = ap (λ (x : Option Bytes). unwrap_or x []) e

-- the files of an output, if files are in order
pub files_from_is : (files : Files) (root : Place) → is_sorted byte_order files ≡ true → files_from files root ≡ cond (is_own root) [] (from_root root (files_under files root))
files_from_is files root sorted =
    elim (is_own root) as (λ own. contents_at files (cond own [] (entries_from root (map (λ (file : Place × Bytes). file.0) (files_under files root)))) ≡ cond own [] (from_root root (files_under files root))) [
      | true ↦ refl
      | false ↦ by_paths root files (files_under files root) (all_filter (λ (f : Place × Bytes). file_at files f.0 ≡ Some f.1) (λ f. is_under f.0 root) files (each_found files sorted))
    ]

root_digests : (root : Place) (files : Files) → from_root root (digests_of files) ≡ digests_of (from_root root files)
root_digests root [] = refl
root_digests root (file ∷ files) = ap (λ (fs : Files). (path_from root file.0, sha256 file.1) ∷ fs) (root_digests root files)

-- the digests of an output
pub from_digests : (files : Files) (root : Place) → is_sorted byte_order files ≡ true → files_from (digests_of files) root ≡ digests_of (files_from files root)
from_digests files root sorted =
    files_from_is (digests_of files) root (sorted_digests files ∙ sorted)
    ∙ elim (is_own root) as (λ own. cond own [] (from_root root (files_under (digests_of files) root)) ≡ digests_of (cond own [] (from_root root (files_under files root)))) [
      | true ↦ refl
      | false ↦ ap (from_root root) (sym (where_digests (λ place. is_under place root) files)) ∙ root_digests root (files_under files root)
    ]
    ∙ ap digests_of (sym (files_from_is files root sorted))
