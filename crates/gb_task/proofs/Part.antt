-- The files of a part of a folder that holds all of an output.
use Rattle.std.specs.Prelude.{ℕ, ◌≡◌, ◌||◌, Bool, true, false, None, List, [], ◌∷◌, map, length, nat_lt, cond, if◌then◌else◌, unwrap_or}
use Rattle.std.specs.List.{AllByRecursion, filter, list_any}
use Rattle.std.proofs.Common.{refl, ap, ap₂, ◌∙◌}
use Rattle.gb_core.specs.Place.{is_under}
use Rattle.gb_folder.specs.Files.{Place, Bytes, Files, file_at, files_under, files_where, is_own, places_under}
use Rattle.gb_folder.proofs.Changes.{file_at-files_where}
use Rattle.gb_semantics.proofs.Lemmas.Reading.{all_map, all_where}
use Rattle.gb_plan.proofs.Tests.{or_right}
use Rattle.gb_plan.specs.declared.task.Output.{Output}
use Rattle.gb_run.proofs.Owned.{narrowed}
use Rattle.gb_folder.specs.Limits.{max_file}
use Rattle.gb_tree.specs.Tree.{Entries, bytes_at, contents_at, entries_from, files_from, is_large, path_from, too_large}
use Rattle.gb_tree.specs.declared.fault.TreeFault.TheVariants as trees

module _ (test : Place → Bool) where
  -- everything at or under the root passes
  abbrev pub Within : Place → Type 0
  Within root = (q : Place) → is_under q root ≡ true → test q ≡ true

  pub bytes_same : (files : Files) (place : Place) → test place ≡ true → bytes_at (files_where test files) place ≡ bytes_at files place
  bytes_same files place passes =
      ap (λ o. unwrap_or o []) (file_at-files_where files test place ∙ ap (λ b. cond b (file_at files place) None) passes)

  -- entries whose places pass have the same contents
  pub entries_same : (files : Files) (entries : Entries) → AllByRecursion (λ (entry : List ℕ × Place). test entry.1 ≡ true) entries
      → contents_at (files_where test files) entries ≡ contents_at files entries
  entries_same files [] all = refl
  entries_same files (entry ∷ entries) all =
      ap₂ (λ (b : Bytes) (l : Files). (entry.0, b) ∷ l) (bytes_same files entry.1 all.0) (entries_same files entries all.1)

  large_entries : (files : Files) (entries : Entries) → AllByRecursion (λ (entry : List ℕ × Place). test entry.1 ≡ true) entries
      → filter (λ (entry : List ℕ × Place). is_large (files_where test files) entry.1) entries ≡ filter (λ (entry : List ℕ × Place). is_large files entry.1) entries
  large_entries files [] all = refl
  large_entries files (entry ∷ entries) all =
      ap₂ (λ (b : Bool) (l : Entries). cond b (entry ∷ l) l) (ap (λ (bytes : Bytes). nat_lt max_file (length bytes)) (bytes_same files entry.1 all.0))
      (large_entries files entries all.1)

  -- and the same are too large
  pub large_same : (files : Files) (entries : Entries) → AllByRecursion (λ (entry : List ℕ × Place). test entry.1 ≡ true) entries
      → too_large (files_where test files) entries ≡ too_large files entries
  large_same files entries all = ap (map (λ (entry : List ℕ × Place). trees.TooLarge entry.1)) (large_entries files entries all)

  pub under_same : (files : Files) (root : Place) → Within root → files_under (files_where test files) root ≡ files_under files root
  under_same files root within = narrowed (λ place. is_under place root) test within files

  pub all_under : (files : Files) (root : Place) → Within root → AllByRecursion (λ place. test place ≡ true) (places_under files root)
  all_under files root within = all_where (λ place. test place ≡ true) (λ place. is_under place root) within files

  -- the entries of an output pass
  pub all_from : (files : Files) (root : Place) → Within root → AllByRecursion (λ (entry : List ℕ × Place). test entry.1 ≡ true) (entries_from root (places_under files root))
  all_from files root within =
      all_map (λ (entry : List ℕ × Place). test entry.1 ≡ true) (λ place. (path_from root place, place)) (places_under files root) (all_under files root within)

  -- the files of an output
  pub from_same : (files : Files) (root : Place) → Within root → files_from (files_where test files) root ≡ files_from files root
  from_same files root within =
      elim (is_own root) as (λ own. contents_at (files_where test files) (if own then [] else entries_from root (places_under (files_where test files) root)) ≡ contents_at files (if own then [] else entries_from root (places_under files root))) [
        | true ↦ refl
        | false ↦
            ap (λ (fs : Files). contents_at (files_where test files) (entries_from root (map (λ (file : Place × Bytes). file.0) fs))) (under_same files root within)
            ∙ entries_same files (entries_from root (places_under files root)) (all_from files root within)
      ]

  -- an output of a list whose places pass, and those after it
  pub first_within : (output : Output) (outputs : List Output) → ((q : Place) → list_any (λ (o : Output). is_under q o.place) (output ∷ outputs) ≡ true → test q ≡ true) → Within output.place
  first_within output outputs within q under = within q (ap (λ b. b || list_any (λ (o : Output). is_under q o.place) outputs) under)

  pub rest_within : (output : Output) (outputs : List Output) → ((q : Place) → list_any (λ (o : Output). is_under q o.place) (output ∷ outputs) ≡ true → test q ≡ true)
      → (q : Place) → list_any (λ (o : Output). is_under q o.place) outputs ≡ true → test q ≡ true
  rest_within output outputs within q any = within q (or_right (is_under q output.place) (list_any (λ (o : Output). is_under q o.place) outputs) any)
