-- The projects of settings occur once each, so no script has earlier statements of its project.
use Rattle.std.proofs.Common.{◌≡◌, Bool, true, false, not, cond, ◌&&◌, ◌||◌, List, [], ◌∷◌, ◌++◌, refl, sym, ap, ◌∙◌, true≢false}
use Rattle.std.specs.Prelude.{bytes_eq, zip}
use Rattle.std.specs.List.{flat_map}
use Rattle.std.specs.Cmp.Lexicographic.{bytes_decides}
use Rattle.std.proofs.lemmas.List.Folds.{list_any-append}
use Rattle.gb_core.proofs.TaskPaths.{left_of, right_of}
use Rattle.gb_core.proofs.Booleans.{left_false, right_false}
use Rattle.gb_script.specs.declared.script.Statement.{Statement}
use Rattle.gb_registry.specs.New.{AreNew}
use Rattle.gb_registry.specs.Projects.{Path, included, is_among, lineage_of, project_paths, root_path, with_path, with_paths}
use Rattle.gb_registry.specs.Said.{Said, said_by, script_of}
use Rattle.gb_registry.proofs.Own.{own_script, script_of-append}

-- each occurs once
abbrev occur_once : List Path → Bool
occur_once [] = true
occur_once (path ∷ paths) = not (is_among paths path) && occur_once paths

both : (a b : Bool) → a ≡ true → b ≡ true → (a && b) ≡ true
both a b h i = ap (λ x. x && b) h ∙ i

not_so : (b : Bool) → not b ≡ true → b ≡ false
not_so true e = absurd (true≢false (sym e))
not_so false e = refl

-- what differs one way differs the other way
other_way : (a b : Path) → bytes_eq a b ≡ false → bytes_eq b a ≡ false
other_way a b separate = by (bytes_eq b a) refl
  where
    by : (d : Bool) → bytes_eq b a ≡ d → bytes_eq b a ≡ false
    by true is = absurd (true≢false (sym ((bytes_decides a b).1 (sym ((bytes_decides b a).0 is))) ∙ separate))
    by false is = is

once_more : (paths : List Path) (path : Path) → occur_once paths ≡ true → is_among paths path ≡ false → occur_once (paths ++ path ∷ []) ≡ true
once_more [] path once new = refl
once_more (first ∷ paths) path once new =
    let separate = other_way path first (left_false (bytes_eq path first) (is_among paths path) new) in
    let none = not_so (is_among paths first) (left_of (not (is_among paths first)) (occur_once paths) once) in
    both (not (is_among (paths ++ path ∷ []) first)) (occur_once (paths ++ path ∷ []))
    (ap not (list_any-append (bytes_eq first) paths (path ∷ []) ∙ ap (λ b. b || (bytes_eq first path || false)) none ∙ ap (λ b. b || false) separate))
    (once_more paths path (right_of (not (is_among paths first)) (occur_once paths) once) (right_false (bytes_eq path first) (is_among paths path) new))

once_with : (there : List Path) (path : Path) → occur_once there ≡ true → occur_once (with_path there path) ≡ true
once_with there path once = by (is_among there path) refl
  where
    by : (b : Bool) → is_among there path ≡ b → occur_once (cond b there (there ++ path ∷ [])) ≡ true
    by true is = once
    by false is = once_more there path once is

once_with_all : (there paths : List Path) → occur_once there ≡ true → occur_once (with_paths there paths) ≡ true
once_with_all there [] once = once
once_with_all there (path ∷ paths) once = once_with_all (with_path there path) paths (once_with there path once)

-- none of the projects has a statement before
abbrev AreSilent : List Said → List Path → Type 0
AreSilent before paths = (path : Path) → is_among paths path ≡ true → script_of before path ≡ []

new_by : (paths : List Path) (scripts : List (List Statement)) (before : List Said) → occur_once paths ≡ true → AreSilent before paths → AreNew before (zip paths scripts)
new_by [] scripts before once silent = tt
new_by (path ∷ paths) [] before once silent = tt
new_by (path ∷ paths) (script ∷ scripts) before once silent =
    let none = not_so (is_among paths path) (left_of (not (is_among paths path)) (occur_once paths) once) in (
      silent path (ap (λ b. b || is_among paths path) ((bytes_decides path path).1 refl)),
      new_by paths scripts (before ++ said_by (path, script)) (right_of (not (is_among paths path)) (occur_once paths) once)
          (λ other among.
          script_of-append before (said_by (path, script)) other
          ∙ ap (λ l. l ++ script_of (said_by (path, script)) other) (silent other (or_right (bytes_eq other path) (is_among paths other) among))
          ∙ own_script path other false (differs path other paths none among) script),
    )
  where
    or_right : (a b : Bool) → b ≡ true → (a || b) ≡ true
    or_right true b h = refl
    or_right false b h = h

    differs : (path other : Path) (paths : List Path) → is_among paths path ≡ false → is_among paths other ≡ true → bytes_eq path other ≡ false
    differs path other paths none among = by (bytes_eq path other) refl
      where
        by : (b : Bool) → bytes_eq path other ≡ b → bytes_eq path other ≡ false
        by true is = absurd (true≢false (sym among ∙ sym (ap (is_among paths) ((bytes_decides path other).0 is)) ∙ none))
        by false is = is

pub are_new : (settings : List (List Path)) (scripts : List (List Statement)) → AreNew [] (zip (project_paths settings) scripts)
are_new settings scripts =
    new_by (project_paths settings) scripts [] (once_with_all (root_path ∷ []) (flat_map lineage_of (included settings)) refl) (λ path among. refl)
