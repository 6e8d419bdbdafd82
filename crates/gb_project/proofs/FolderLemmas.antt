-- The build folder of a project, as defined by plans and by scripts.
use Rattle.std.proofs.Common.{◌≡◌, ◌==◌, ℕ, Bool, true, false, not, cond, List, [], ◌∷◌, ◌++◌, filter, map, refl, sym, ap, subst, ◌∙◌, append_assoc, true≢false}
use Rattle.std.proofs.lemmas.List.Concat.{flat_map-append}
use Rattle.std.specs.Cmp.Lexicographic.{bytes_decides}
use Rattle.std.specs.Prelude.{None, Some, bytes_eq, codes, drop}
use Rattle.std.specs.List.{flat_map, join_by, list_all, onto_first, slice_split}
use Rattle.gb_core.proofs.Splits.{has_first}
use Rattle.gb_core.specs.Name.{is_name}
use Rattle.gb_core.specs.Path.{is_project_path, is_task_path}
use Rattle.gb_core.specs.Place.{joined}
use Rattle.gb_folder.specs.Files.{is_empty}
use Rattle.gb_plan.proofs.Tests.{right_of}
use Rattle.gb_plan.specs.Graph.{build_folder}
use Rattle.gb_registry.proofs.Folders.{begins_with_colon, names_something}
use Rattle.gb_registry.specs.Projects.{folder_of, folder_text, slashed}

abbrev parts_of : List ℕ → List (List ℕ)
parts_of text = slice_split (λ b. b == 58) text

abbrev join : List (List ℕ) → List ℕ
join names = join_by (λ name. name) (codes "/") names

-- names are not empty
names_stay : (names : List (List ℕ)) → list_all is_name names ≡ true → filter (λ name. not (is_empty name)) names ≡ names
names_stay [] h = refl
names_stay ([] ∷ names) h = absurd (true≢false (sym h))
names_stay ((c ∷ name) ∷ names) h = ap (λ l. (c ∷ name) ∷ l) (names_stay names (right_of (is_name (c ∷ name)) (list_all is_name names) h))

-- a part at the front, and a byte before the first part
prefix_part : (parts : List (List ℕ)) (first : List ℕ) (rest : List (List ℕ)) → parts ≡ first ∷ rest → join ([] ∷ parts) ≡ 47 ∷ join parts
prefix_part parts first rest is = ap (λ p. join ([] ∷ p)) is ∙ sym (ap (λ p. 47 ∷ join p) is)

first_byte : (c : ℕ) (parts : List (List ℕ)) (first : List ℕ) (rest : List (List ℕ)) → parts ≡ first ∷ rest → join (onto_first c parts) ≡ c ∷ join parts
first_byte c parts first rest is = ap (λ p. join (onto_first c p)) is ∙ sym (ap (λ p. c ∷ join p) is)

-- the parts between the colons, with slashes in place of these
slash_at : (c : ℕ) (text : List ℕ) (b : Bool) → (c == 58) ≡ b → join (parts_of text) ≡ map slashed text → join (cond b ([] ∷ parts_of text) (onto_first c (parts_of text))) ≡ cond b 47 c ∷ map slashed text
slash_at c text true is rest = let parts = has_first 58 text in prefix_part (parts_of text) parts.0 parts.1 parts.2 ∙ ap (λ l. 47 ∷ l) rest
slash_at c text false is rest = let parts = has_first 58 text in first_byte c (parts_of text) parts.0 parts.1 parts.2 ∙ ap (λ l. c ∷ l) rest

slashes : (text : List ℕ) → join (parts_of text) ≡ map slashed text
slashes [] = refl
slashes (c ∷ text) = slash_at c text (c == 58) refl (slashes text)

-- one more name, after a slash
one_more : (first : List ℕ) (rest : List (List ℕ)) (last : List ℕ) → join (first ∷ rest ++ last ∷ []) ≡ join (first ∷ rest) ++ 47 ∷ last
one_more first rest last =
    ap (λ l. first ++ l) (flat_map-append (λ name. 47 ∷ name) rest (last ∷ []) ∙ ap (λ l. flat_map (λ name. 47 ∷ name) rest ++ 47 ∷ l) (end last))
    ∙ sym (append_assoc first (flat_map (λ name. 47 ∷ name) rest) (47 ∷ last))
  where
    end : (xs : List ℕ) → xs ++ [] ≡ xs
    end [] = refl
    end (x ∷ xs) = ap (λ l. x ∷ l) (end xs)

-- the folder of the names of a text after a colon
below : (text : List ℕ) → list_all is_name (parts_of text) ≡ true → build_folder (58 ∷ text) ≡ map slashed text ++ 47 ∷ codes "build"
below text good =
    let parts = has_first 58 text in
    ap (λ names. join (names ++ codes "build" ∷ [])) (names_stay (parts_of text) good)
    ∙ ap (λ names. join (names ++ codes "build" ∷ [])) parts.2
    ∙ one_more parts.0 parts.1 (codes "build")
    ∙ ap (λ names. join names ++ 47 ∷ codes "build") (sym parts.2)
    ∙ ap (λ l. l ++ 47 ∷ codes "build") (slashes text)

-- a project's build folder is `build` in its folder
pub same_folder : (project : List ℕ) → is_project_path project ≡ true → build_folder project ≡ joined (folder_of project) (codes "build")
same_folder project good = by (bytes_eq project (codes ":")) refl
  where
    by : (b : Bool) → bytes_eq project (codes ":") ≡ b → build_folder project ≡ joined (folder_of project) (codes "build")
    by true is = subst (λ p. build_folder p ≡ joined (folder_of p) (codes "build")) (sym ((bytes_decides project (codes ":")).0 is)) refl
    by false is =
        let begins : project ≡ 58 ∷ drop 1 project = begins_with_colon project good in
        let names : list_all is_name (parts_of (drop 1 project)) ≡ true =
        sym (ap is_task_path begins) ∙ names_something project good is in
        ap build_folder begins ∙ below (drop 1 project) names
        ∙ sym (ap (λ b. joined (cond b None (Some (folder_text project))) (codes "build")) is)
