-- Files are removed, place by place.
use Rattle.std.proofs.Common.{◌≡◌, ℕ, Bool, true, false, cond, not, ◌&&◌, ◌||◌, List, [], ◌∷◌, ◌++◌, Option, Some, None, is_some, map, fold, refl, sym, ◌∙◌, ap}
use Rattle.std.proofs.lemmas.Bool.{false≢true}
use Rattle.std.proofs.lemmas.List.Folds.{list_any-append}
use Rattle.std.specs.Cmp.{unsigned_ties}
use Rattle.std.specs.Cmp.Lexicographic.{slice_cmp, lists_ties, bytes_decides}
use Rattle.std.specs.List.{AllByRecursion, list_any, flat_map}
use Rattle.std.specs.Ordering.{nat_cmp, is_eq}
use Rattle.std.specs.Prelude.{bytes_eq}
use Rattle.gb_core.specs.Place.{is_under}
use Rattle.gb_folder.specs.Files.{Place, Files, IsFolder, file_at, files_under, files_where, is_blocked, places_under, without}
use Rattle.gb_folder.proofs.Free.{free_at}
use Rattle.gb_folder.proofs.Changes.{file_at-files_where, file_at-without, same_files}
use Rattle.gb_folder.proofs.Sound.{sound_where}

-- removing a place without a file changes nothing
pub without_none : (files : Files) (place : Place) → IsFolder files → file_at files place ≡ None → without files place ≡ files
without_none files place sound none =
    same_files _ _ (sound_where files (λ other. not (bytes_eq other place)) sound) sound (λ q. file_at-without files place q ∙ left q)
  where
    left : (q : Place) → cond (not (bytes_eq q place)) (file_at files q) None ≡ file_at files q
    left q = elim (bytes_eq q place) as (λ b. bytes_eq q place ≡ b → cond (not b) (file_at files q) None ≡ file_at files q) [
      | true ↦ λ is. sym (ap (λ p. file_at files p) ((bytes_decides q place).0 is) ∙ none)
      | false ↦ λ is. refl
    ] refl

pub sound_removed : (places : List Place) (files : Files) → IsFolder files → IsFolder (fold without files places)
sound_removed [] files sound = sound
sound_removed (place ∷ places) files sound = sound_removed places (without files place) (sound_where files (λ other. not (bytes_eq other place)) sound)

taken_twice : (a b : Bool) (o : Option (List ℕ)) → cond b None (cond (not a) o None) ≡ cond (a || b) None o
taken_twice true true o = refl
taken_twice true false o = refl
taken_twice false b o = refl

-- the files that are left once the places are emptied
at_removed : (places : List Place) (files : Files) (q : Place) → file_at (fold without files places) q ≡ cond (list_any (bytes_eq q) places) None (file_at files q)
at_removed [] files q = refl
at_removed (place ∷ places) files q =
    at_removed places (without files place) q ∙ ap (λ o. cond (list_any (bytes_eq q) places) None o) (file_at-without files place q)
    ∙ taken_twice (bytes_eq q place) (list_any (bytes_eq q) places) (file_at files q)

found_at : (b : Bool) (bytes : List ℕ) (o : Option (List ℕ)) → is_some (cond b (Some bytes) o) ≡ (b || is_some o)
found_at true bytes o = refl
found_at false bytes o = refl

-- a place is among the places of some files exactly if one of these files is at it
exists_where : (test : Place → Bool) (files : Files) (q : Place) → list_any (bytes_eq q) (map (λ file. file.0) (files_where test files)) ≡ (test q && is_some (file_at files q))
exists_where test [] q = elim (test q) as (λ b. false ≡ (b && false)) [ true ↦ refl | false ↦ refl ]
exists_where test (file ∷ files) q =
    let rest = exists_where test files q in
    let more : list_any (bytes_eq q) (map (λ f. f.0) (files_where test (file ∷ files))) ≡ (test file.0 && bytes_eq q file.0 || list_any (bytes_eq q) (map (λ f. f.0) (files_where test files))) =
    elim (test file.0) as (λ b. list_any (bytes_eq q) (map (λ f. f.0) (cond b (file ∷ files_where test files) (files_where test files))) ≡ (b && bytes_eq q file.0 || list_any (bytes_eq q) (map (λ f. f.0) (files_where test files)))) [ true ↦ refl | false ↦ refl ] in
    let same : (test file.0 && bytes_eq q file.0) ≡ (test q && bytes_eq q file.0) =
    elim (bytes_eq q file.0) as (λ b. bytes_eq q file.0 ≡ b → (test file.0 && b) ≡ (test q && b)) [
      | true ↦ λ is. ap (λ p. test p && true) (sym ((bytes_decides q file.0).0 is))
      | false ↦ λ is. elim (test file.0) as (λ a. (a && false) ≡ (test q && false)) [ true ↦ none (test q) | false ↦ none (test q) ]
    ] refl in
    let exists : is_some (file_at (file ∷ files) q) ≡ (bytes_eq q file.0 || is_some (file_at files q)) =
    found_at (is_eq (slice_cmp nat_cmp q file.0)) file.1 (file_at files q) ∙ ap (λ b. b || is_some (file_at files q)) (sym (lists_ties nat_cmp unsigned_ties q file.0)) in
    more ∙ ap (λ a. a || list_any (bytes_eq q) (map (λ f. f.0) (files_where test files))) same ∙ ap (λ a. test q && bytes_eq q file.0 || a) rest
    ∙ joined (test q) (bytes_eq q file.0) (is_some (file_at files q)) ∙ ap (λ a. test q && a) (sym exists)
  where
    none : (b : Bool) → false ≡ (b && false)
    none true = refl
    none false = refl

    joined : (a b c : Bool) → (a && b || a && c) ≡ (a && (b || c))
    joined true b c = refl
    joined false b c = refl

-- the places of the files under some roots
exists_beneath : {X : Type 0} (root : X → Place) (xs : List X) (files : Files) (q : Place)
    → list_any (bytes_eq q) (flat_map (λ x. places_under files (root x)) xs) ≡ (list_any (λ x. is_under q (root x)) xs && is_some (file_at files q))
exists_beneath root [] files q = refl
exists_beneath root (x ∷ xs) files q =
    list_any-append (bytes_eq q) (places_under files (root x)) (flat_map (λ y. places_under files (root y)) xs)
    ∙ ap (λ a. a || list_any (bytes_eq q) (flat_map (λ y. places_under files (root y)) xs)) (exists_where (λ p. is_under p (root x)) files q)
    ∙ ap (λ a. is_under q (root x) && is_some (file_at files q) || a) (exists_beneath root xs files q)
    ∙ joined (is_under q (root x)) (list_any (λ y. is_under q (root y)) xs) (is_some (file_at files q))
  where
    joined : (a b c : Bool) → (a && c || b && c) ≡ ((a || b) && c)
    joined true true true = refl
    joined true true false = refl
    joined true false true = refl
    joined true false false = refl
    joined false b c = refl

left_over : (b : Bool) (o : Option (List ℕ)) → cond (b && is_some o) None o ≡ cond (not b) o None
left_over true None = refl
left_over true (Some bytes) = refl
left_over false o = refl

-- Once each file under some roots is removed, those elsewhere are left.
pub emptied : {X : Type 0} (root : X → Place) (xs : List X) (files : Files) → IsFolder files
    → fold without files (flat_map (λ x. places_under files (root x)) xs) ≡ files_where (λ q. not (list_any (λ x. is_under q (root x)) xs)) files
emptied root xs files sound =
    let places = flat_map (λ x. places_under files (root x)) xs in
    let is_rooted : Place → Bool = λ q. list_any (λ x. is_under q (root x)) xs in
    same_files _ _ (sound_removed places files sound) (sound_where files (λ q. not (is_rooted q)) sound) (λ q.
    at_removed places files q ∙ ap (λ b. cond b None (file_at files q)) (exists_beneath root xs files q) ∙ left_over (is_rooted q) (file_at files q)
    ∙ sym (file_at-files_where files (λ p. not (is_rooted p)) q))

-- there is no file where another one is in the way
pub blocked_none : (files : Files) (place : Place) → IsFolder files → is_blocked files place ≡ true → file_at files place ≡ None
blocked_none files place sound blocked =
    elim (file_at files place) as (λ o. file_at files place ≡ o → o ≡ None) [
      | None ↦ λ _. refl
      | Some bytes ↦ λ exists. absurd (false≢true (sym (free_at files place bytes sound exists) ∙ blocked))
    ] refl

unsplit : (b : Bool) → not (b || false) ≡ not b
unsplit true = refl
unsplit false = refl

same_tests : (a b : Place → Bool) → ((place : Place) → a place ≡ b place) → (files : Files) → files_where a files ≡ files_where b files
same_tests a b same [] = refl
same_tests a b same (file ∷ files) =
    ap (λ t. cond t (file ∷ files_where a files) (files_where a files)) (same file.0) ∙ ap (λ fs. cond (b file.0) (file ∷ fs) fs) (same_tests a b same files)

no_more : {X : Type 0} (xs : List X) → xs ++ [] ≡ xs
no_more [] = refl
no_more (x ∷ xs) = ap (λ ys. x ∷ ys) (no_more xs)

-- once each file at or under a place is removed, those elsewhere are left
pub emptied_place : (place : Place) (files : Files) → IsFolder files → fold without files (places_under files place) ≡ files_where (λ q. not (is_under q place)) files
emptied_place place files sound =
    ap (fold without files) (sym (no_more (places_under files place))) ∙ emptied (λ p. p) (place ∷ []) files sound
    ∙ same_tests (λ q. not (is_under q place || false)) (λ q. not (is_under q place)) (λ q. unsplit (is_under q place)) files

-- the files at or under a place lie there
pub all_under : (files : Files) (root : Place) → AllByRecursion (λ place. is_under place root ≡ true) (places_under files root)
all_under [] root = tt
all_under (file ∷ files) root =
    elim (is_under file.0 root) as (λ b. is_under file.0 root ≡ b → AllByRecursion (λ place. is_under place root ≡ true) (map (λ f. f.0) (cond b (file ∷ files_under files root) (files_under files root)))) [
      | true ↦ λ is. (is, all_under files root)
      | false ↦ λ _. all_under files root
    ] refl
