-- Projects that texts add, one after another.
use Rattle.std.proofs.Common.{◌≡◌, true, ℕ, ◌+◌, ◌<◌, List, [], ◌∷◌, ◌++◌, append_assoc, length, get_or, drop, refl, sym, ap, ◌∙◌}
use Rattle.std.specs.List.{flat_map, list_all}
use Rattle.std.proofs.lemmas.List.Concat.{flat_map-append}
use Rattle.gb_core.specs.Path.{is_project_path}
use Rattle.gb_core.proofs.TaskPaths.{left_of, right_of}
use Rattle.gb_registry.specs.Projects.{Path, included, lineage_from, lineage_of, path_faults, paths_faults, text_faults, texts_faults, with_path, with_paths}
use Rattle.gb_registry.proofs.Firsts.{left_from}

pub with_paths-append : (there paths more : List Path) → with_paths there (paths ++ more) ≡ with_paths (with_paths there paths) more
with_paths-append there [] more = refl
with_paths-append there (path ∷ paths) more = with_paths-append (with_path there path) paths more

texts_faults-append : (there : List Path) (texts more : List (List ℕ))
    → texts_faults there (texts ++ more) ≡ texts_faults there texts ++ texts_faults (with_paths there (flat_map lineage_of texts)) more
texts_faults-append there [] more = refl
texts_faults-append there (text ∷ texts) more =
    ap (λ faults. text_faults there text ++ faults) (texts_faults-append (with_paths there (lineage_of text)) texts more)
    ∙ sym (append_assoc (text_faults there text) _ _)
    ∙ ap (λ paths. text_faults there text ++ texts_faults (with_paths there (lineage_of text)) texts ++ texts_faults paths more)
    (sym (with_paths-append there (lineage_of text) (flat_map lineage_of texts)))

module _ (there after : List Path) (texts : List (List ℕ)) (i : ℕ) (text : List ℕ) (within : i < length texts) (is : text ≡ get_or texts i text) (added : after ≡ with_paths there (lineage_of text)) where
  abbrev rest : List (List ℕ)
  rest = drop (i + 1) texts

  -- a text has been read
  pub text_paths : with_paths there (flat_map lineage_of (drop i texts)) ≡ with_paths after (flat_map lineage_of rest)
  text_paths =
      ap (λ left. with_paths there (flat_map lineage_of left)) (left_from texts i text within is)
      ∙ with_paths-append there (lineage_of text) (flat_map lineage_of rest)
      ∙ ap (λ paths. with_paths paths (flat_map lineage_of rest)) (sym added)

  pub text_left : text_faults there text ≡ [] → texts_faults there (drop i texts) ≡ texts_faults after rest
  text_left none =
      ap (texts_faults there) (left_from texts i text within is)
      ∙ ap (λ faults. faults ++ texts_faults (with_paths there (lineage_of text)) rest) none
      ∙ ap (λ paths. texts_faults paths rest) (sym added)

module _ (there after : List Path) (includes : List (List (List ℕ))) (i : ℕ) (texts : List (List ℕ)) (within : i < length includes) (is : texts ≡ get_or includes i texts) where
  abbrev others : List (List (List ℕ))
  others = drop (i + 1) includes

  -- all texts of an include, and then those of the others
  pub include_faults : texts_faults there (included (drop i includes))
      ≡ texts_faults there texts ++ texts_faults (with_paths there (flat_map lineage_of texts)) (included others)
  include_faults =
      ap (λ left. texts_faults there (included left)) (left_from includes i texts within is)
      ∙ texts_faults-append there texts (included others)

  module _ (added : after ≡ with_paths there (flat_map lineage_of texts)) where
    pub include_paths : with_paths there (flat_map lineage_of (included (drop i includes))) ≡ with_paths after (flat_map lineage_of (included others))
    include_paths =
        ap (λ left. with_paths there (flat_map lineage_of (included left))) (left_from includes i texts within is)
        ∙ ap (with_paths there) (flat_map-append lineage_of texts (included others))
        ∙ with_paths-append there (flat_map lineage_of texts) (flat_map lineage_of (included others))
        ∙ ap (λ paths. with_paths paths (flat_map lineage_of (included others))) (sym added)

    pub include_left : texts_faults there texts ≡ [] → texts_faults there (included (drop i includes)) ≡ texts_faults after (included others)
    include_left none =
        include_faults
        ∙ ap (λ faults. faults ++ texts_faults (with_paths there (flat_map lineage_of texts)) (included others)) none
        ∙ ap (λ paths. texts_faults paths (included others)) (sym added)

-- ---- One project of a lineage

module _ (prefix prefix' path : Path) (parts : List (List ℕ)) (i n : ℕ) (name : List ℕ) (within : i < length parts) (is : name ≡ get_or parts i name)
    (path_is : path ≡ prefix ++ 58 ∷ name) (prefix_is : prefix' ≡ path) (next : n ≡ i + 1) where
  abbrev left : List Path
  left = lineage_from prefix (drop i parts)

  abbrev following : List Path
  following = lineage_from prefix' (drop n parts)

  left_is : left ≡ path ∷ following
  left_is =
      ap (lineage_from prefix) (left_from parts i name within is)
      ∙ ap (λ p. p ∷ lineage_from p (drop (i + 1) parts)) (sym path_is)
      ∙ ap (λ f. path ∷ lineage_from f (drop (i + 1) parts)) (sym prefix_is)
      ∙ ap (λ k. path ∷ lineage_from prefix' (drop k parts)) (sym next)

  pub path_good : list_all is_project_path left ≡ true → is_project_path path ≡ true
  path_good good = left_of (is_project_path path) (list_all is_project_path following) (sym (ap (list_all is_project_path) left_is) ∙ good)

  pub after_good : list_all is_project_path left ≡ true → list_all is_project_path following ≡ true
  after_good good = right_of (is_project_path path) (list_all is_project_path following) (sym (ap (list_all is_project_path) left_is) ∙ good)

  module _ (there : List Path) where
    pub lineage_faults : paths_faults there left ≡ path_faults there path ++ paths_faults (with_path there path) following
    lineage_faults = ap (paths_faults there) left_is

    module _ (after : List Path) (added : after ≡ with_path there path) where
      pub lineage_paths : with_paths there left ≡ with_paths after following
      lineage_paths = ap (with_paths there) left_is ∙ ap (λ paths. with_paths paths following) (sym added)

      pub lineage_left : path_faults there path ≡ [] → paths_faults there left ≡ paths_faults after following
      lineage_left none =
          lineage_faults ∙ ap (λ faults. faults ++ paths_faults (with_path there path) following) none
          ∙ ap (λ paths. paths_faults paths following) (sym added)
