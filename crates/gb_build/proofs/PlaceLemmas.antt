-- The places of the scripts of projects.
use Rattle.std.proofs.Common.{◌≡◌, ℕ, suc, ◌+◌, ◌-◌, ◌<◌, ◌≤◌, Bool, true, false, not, cond, ◌&&◌, ◌||◌, eqb, List, [], ◌∷◌, ◌++◌, length, drop, get_or, refl, ap, ◌∙◌, Option, Some, None, arith, length-append}
use Rattle.std.proofs.Math.Seq.{drop-append-add, get_or-append_seam}
use Rattle.std.proofs.lemmas.Bool.Decides.{nat_tests}
use Rattle.std.proofs.lemmas.List.{get_or-append_right}
use Rattle.std.proofs.lemmas.List.Folds.{list_all-append}
use Rattle.std.proofs.lemmas.List.Sums.{suffix_len_is}
use Rattle.std.specs.Cmp.Lexicographic.{bytes_decides}
use Rattle.std.specs.Prelude.{bytes_eq, codes, nat_le}
use Rattle.std.specs.List.{after_last, list_all, suffix_len}
use Rattle.gb_core.proofs.BySegments.{segments-joined}
use Rattle.gb_core.proofs.TaskPaths.{left_of, right_of}
use Rattle.gb_core.specs.Path.{is_task_path}
use Rattle.gb_core.specs.Place.{is_place, is_printable, is_segment, segments}
use Rattle.gb_folder.specs.Files.{Place}
use Rattle.gb_registry.proofs.Fine.{AreFine, both_true, fits, is_fine, projects_fine, short_enough}
use Rattle.gb_registry.proofs.Folders.{folder_is_place}
use Rattle.gb_registry.specs.Projects.{Path, folder_of, folder_text, project_paths, projects_of, root_path, settings_faults, with_folders}
use Rattle.gb_folder.specs.Changes.{is_at}
use Rattle.gb_build.specs.Scripts.{is_script_place, script_place, script_places}

-- ---- Such a place ends in the name of scripts

abbrev is_slash : ℕ → Bool
is_slash b = eqb b 47

abbrev name : List ℕ
name = codes "build.gb"

no_slash : (k : ℕ) → k < 8 → not (is_slash (get_or name k 0)) ≡ true
no_slash k low = grind (arith, nat_tests)

module _ (prefix : List ℕ) where
  following : (k : ℕ) → length prefix + 1 ≤ k → k < length (prefix ++ 47 ∷ name) → not (is_slash (get_or (prefix ++ 47 ∷ name) k 0)) ≡ true
  following k from below =
      let index : k - length prefix ≡ suc (k - length prefix - 1) = omega (arith, from) in
      let short : k - length prefix - 1 < 8 = omega (arith, from, below, length-append prefix (47 ∷ name)) in
      ap (λ b. not (is_slash b)) (get_or-append_right prefix (47 ∷ name) (length prefix) k 0 refl (omega (arith, from)) ∙ ap (λ n. get_or (47 ∷ name) n 0) index)
      ∙ no_slash (k - length prefix - 1) short

  suffix : suffix_len (λ b. not (is_slash b)) (prefix ++ 47 ∷ name) ≡ length (prefix ++ 47 ∷ name) - (length prefix + 1)
  suffix =
      suffix_len_is (λ b. not (is_slash b)) (prefix ++ 47 ∷ name) (length prefix + 1) 0 (omega (arith, length-append prefix (47 ∷ name))) following
      (λ p. ap (λ n. not (is_slash (get_or (prefix ++ 47 ∷ name) n 0))) (let e : (length prefix + 1) - 1 ≡ length prefix = omega arith in e) ∙ ap (λ b. not (is_slash b)) (get_or-append_seam prefix 47 name 0))

  after : after_last is_slash (prefix ++ 47 ∷ name) ≡ name
  after =
      let count : length (prefix ++ 47 ∷ name) - suffix_len (λ b. not (is_slash b)) (prefix ++ 47 ∷ name) ≡ length prefix + 1 = omega (arith, suffix, length-append prefix (47 ∷ name)) in
      ap (λ n. drop n (prefix ++ 47 ∷ name)) count ∙ drop-append-add prefix (47 ∷ name) 1

or_right : (a b : Bool) → b ≡ true → (a || b) ≡ true
or_right true b h = refl
or_right false b h = h

pub script_exists : (folder : Option Place) → is_script_place (script_place folder) ≡ true
script_exists None = refl
script_exists (Some folder) =
    or_right (bytes_eq (folder ++ 47 ∷ name) (codes "settings.gb")) (bytes_eq (after_last is_slash (folder ++ 47 ∷ name)) name)
    (ap (λ last. bytes_eq last name) (after folder))

-- ---- It is a place

-- a script in a folder
in_folder : (folder : List ℕ) → is_place folder ≡ true → length folder ≤ 896 → is_place (folder ++ 47 ∷ name) ≡ true
in_folder folder good short =
    let prefix = left_of (nat_le (length folder) 1024 && list_all is_printable folder) (list_all is_segment (segments folder)) good in
    let shown = right_of (nat_le (length folder) 1024) (list_all is_printable folder) prefix in
    let parts = right_of (nat_le (length folder) 1024 && list_all is_printable folder) (list_all is_segment (segments folder)) good in
    let long : length (folder ++ 47 ∷ name) ≡ length folder + 9 = length-append folder (47 ∷ name) in
    both_true (nat_le (length (folder ++ 47 ∷ name)) 1024 && list_all is_printable (folder ++ 47 ∷ name)) (list_all is_segment (segments (folder ++ 47 ∷ name)))
    (both_true (nat_le (length (folder ++ 47 ∷ name)) 1024) (list_all is_printable (folder ++ 47 ∷ name))
    (fits (length (folder ++ 47 ∷ name)) (omega (arith, long, short)))
    (list_all-append is_printable folder (47 ∷ name) ∙ ap (λ b. b && list_all is_printable (47 ∷ name)) shown))
    (ap (list_all is_segment) (segments-joined folder name) ∙ list_all-append is_segment (segments folder) (segments name)
    ∙ ap (λ b. b && list_all is_segment (segments name)) parts)

fine_place : (path : Path) (b : Bool) → bytes_eq path root_path ≡ b → (b || (is_task_path path && nat_le (length (folder_text path)) 896)) ≡ true
    → is_place (script_place (cond b None (Some (folder_text path)))) ≡ true
fine_place path true is fine = refl
fine_place path false is fine =
    let short = short_enough (folder_text path) (right_of (is_task_path path) (nat_le (length (folder_text path)) 896) fine) in
    in_folder (folder_text path) (folder_is_place path (left_of (is_task_path path) (nat_le (length (folder_text path)) 896) fine) short) short

fine_places : (paths : List Path) → AreFine paths → list_all is_place (script_places (with_folders paths)) ≡ true
fine_places [] fine = refl
fine_places (path ∷ paths) fine =
    both_true (is_place (script_place (folder_of path))) (list_all is_place (script_places (with_folders paths)))
    (fine_place path (bytes_eq path root_path) refl (left_of (is_fine path) (list_all is_fine paths) fine))
    (fine_places paths (right_of (is_fine path) (list_all is_fine paths) fine))

-- where settings have no fault, each script of their projects has a place
pub places_good : (settings : List (List (List ℕ))) → settings_faults settings ≡ [] → list_all is_place (script_places (projects_of settings)) ≡ true
places_good settings none = fine_places (project_paths settings) (projects_fine settings none)

-- a fault that is attributed to the place of a script is attributed to such a place
pub blamed_at : (folder : Option Place) (at place : Place) → at ≡ script_place folder → is_at at place ≡ true → is_script_place place ≡ true
blamed_at folder at place is blamed = ap is_script_place ((bytes_decides place at).0 blamed ∙ is) ∙ script_exists folder
