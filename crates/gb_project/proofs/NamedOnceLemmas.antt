-- Scripts without a fault register no path twice.
use Rattle.std.proofs.Common.{◌≡◌, true, false, not, ◌||◌, ◌&&◌, List, [], ◌∷◌, ◌++◌, refl, sym, ap, ◌∙◌, append_assoc}
use Rattle.std.proofs.lemmas.List.{append-nil}
use Rattle.std.proofs.lemmas.List.Elements.{filter_map-append}
use Rattle.std.proofs.lemmas.List.Folds.{list_any-append}
use Rattle.std.specs.Cmp.Lexicographic.{bytes_decides}
use Rattle.std.specs.Prelude.{Option, Some, None, bytes_eq}
use Rattle.std.specs.List.{cons_option, list_any}
use Rattle.gb_plan.specs.Graph.{no_repeats}
use Rattle.gb_plan.specs.Task.{Path, has_path}
use Rattle.gb_plan.proofs.Tests.{itself, neither, none_left, or_true}
use Rattle.gb_registry.specs.Configure.{configure_faults}
use Rattle.gb_registry.specs.Once.{PathsAreNew}
use Rattle.gb_registry.specs.Projects.{is_among}
use Rattle.gb_registry.specs.Said.{Said, paths_of, registered_path}
use Rattle.gb_registry.specs.Source.{Source}
use Rattle.gb_registry.specs.Tables.{Tables}

-- what is registered under a path is not among those before it
abbrev AreNew : List Said → Type 0
AreNew said = (prefix back : List Said) (s : Said) (path : Path) → said ≡ prefix ++ s ∷ back → registered_path s ≡ Some path → is_among (paths_of prefix) path ≡ false

module _ (said : List Said) (new : AreNew said) where
  -- of two paths, one among these and the other not, the two differ
  separate : (paths : List Path) (path other : Path) → is_among paths path ≡ true → is_among paths other ≡ false → bytes_eq path other ≡ false
  separate paths path other there none =
      elim (bytes_eq path other) as (λ b. bytes_eq path other ≡ b → b ≡ false) [
        | true ↦ λ same. sym there ∙ ap (is_among paths) ((bytes_decides path other).0 same) ∙ none
        | false ↦ λ _. refl
      ] refl

  -- a path that is registered in front is not one that is registered later
  later_at : (prefix mid rest : List Said) (s : Said) (path : Path) (found : Option Path) → registered_path s ≡ found → is_among (paths_of prefix) path ≡ true
      → said ≡ (prefix ++ mid) ++ s ∷ rest → has_path (paths_of rest) path ≡ false → has_path (cons_option found (paths_of rest)) path ≡ false
  later_at prefix mid rest s path None is there split following = following
  later_at prefix mid rest s path (Some other) is there split following =
      let none : is_among (paths_of prefix ++ paths_of mid) other ≡ false =
      ap (λ paths. is_among paths other) (sym (filter_map-append registered_path prefix mid)) ∙ new (prefix ++ mid) rest s other split is in
      let none_first : is_among (paths_of prefix) other ≡ false =
      none_left (is_among (paths_of prefix) other) (is_among (paths_of mid) other) (sym (list_any-append (bytes_eq other) (paths_of prefix) (paths_of mid)) ∙ none) in
      neither (bytes_eq path other) (has_path (paths_of rest) path) (separate (paths_of prefix) path other there none_first) following

  later : (prefix mid rest : List Said) (path : Path) → is_among (paths_of prefix) path ≡ true → said ≡ (prefix ++ mid) ++ rest → has_path (paths_of rest) path ≡ false
  later prefix mid [] path there split = refl
  later prefix mid (s ∷ rest) path there split =
      later_at prefix mid rest s path (registered_path s) refl there split
      (later prefix (mid ++ s ∷ []) rest path there (split ∙ sym (append_assoc (prefix ++ mid) (s ∷ []) rest) ∙ ap (λ l. l ++ rest) (append_assoc prefix mid (s ∷ []))))

  -- what a statement registers is registered with it
  there_with : (prefix : List Said) (s : Said) (path : Path) → registered_path s ≡ Some path → is_among (paths_of (prefix ++ s ∷ [])) path ≡ true
  there_with prefix s path is =
      ap (λ paths. is_among paths path) (filter_map-append registered_path prefix (s ∷ []))
      ∙ list_any-append (bytes_eq path) (paths_of prefix) (paths_of (s ∷ []))
      ∙ ap (λ found. list_any (bytes_eq path) (paths_of prefix) || list_any (bytes_eq path) (cons_option found [])) is
      ∙ ap (λ b. list_any (bytes_eq path) (paths_of prefix) || (b || false)) (itself path)
      ∙ or_true (list_any (bytes_eq path) (paths_of prefix))

  once_at : (prefix rest : List Said) (s : Said) (found : Option Path) → registered_path s ≡ found → said ≡ (prefix ++ s ∷ []) ++ rest
      → no_repeats (paths_of rest) ≡ true → no_repeats (cons_option found (paths_of rest)) ≡ true
  once_at prefix rest s None is split following = following
  once_at prefix rest s (Some path) is split following =
      ap (λ b. not b && no_repeats (paths_of rest))
      (later (prefix ++ s ∷ []) [] rest path (there_with prefix s path is) (split ∙ ap (λ l. l ++ rest) (sym (append-nil (prefix ++ s ∷ [])))))
      ∙ following

  rest_once : (prefix rest : List Said) → said ≡ prefix ++ rest → no_repeats (paths_of rest) ≡ true
  rest_once prefix [] split = refl
  rest_once prefix (s ∷ rest) split =
      let next : said ≡ (prefix ++ s ∷ []) ++ rest = split ∙ sym (append_assoc prefix (s ∷ []) rest) in
      once_at prefix rest s (registered_path s) refl next (rest_once (prefix ++ s ∷ []) rest next)

-- scripts without a fault register each path once
pub once_said : {M F Z S A : Type 0} (tables : Tables M F Z S A) (source : Source) → PathsAreNew tables source
    → configure_faults tables source ≡ [] → no_repeats (paths_of source.said) ≡ true
once_said tables source new none = rest_once source.said (new none) [] source.said refl
