-- The lines of chosen files, file by file.
use Rattle.std.proofs.Common.{◌≡◌, ℕ, Bool, true, false, true≢false, ◌||◌, if◌then◌else◌, List, [], ◌∷◌, ◌++◌, Some, None, unwrap_or, refl, sym, ap, ◌∙◌, append-nil}
use Rattle.std.proofs.lemmas.Grind.{flat_map-append}
use Rattle.std.proofs.lemmas.List.Elements.{filter-append}
use Rattle.std.proofs.lemmas.List.Folds.{list_any-append}
use Rattle.std.specs.List.{filter, flat_map, list_any}
use Rattle.gb_action.specs.Files.{Tree}
use Rattle.gb_kinds.specs.Carried.{lines_where}
use Rattle.gb_kinds.specs.Words.{path_line, with_path}
use Rattle.gb_kinds.proofs.WordSets.{or_false}

module _ (chosen : List ℕ × List ℕ → Bool) where
  abbrev lines_by : Bool → List ℕ × List ℕ → Tree → List ℕ
  lines_by b file files = flat_map (λ (f : List ℕ × List ℕ). path_line f.0) (if b then file ∷ filter chosen files else filter chosen files)

  abbrev pub chosen_lines : Tree → List ℕ
  chosen_lines files = flat_map (λ (f : List ℕ × List ℕ). path_line f.0) (filter chosen files)

  no_lines : (files : Tree) → list_any chosen files ≡ false → chosen_lines files ≡ []
  no_lines [] h = refl
  no_lines (file ∷ files) h = by (chosen file) h (no_lines files)
    where
      by : (b : Bool) → (b || list_any chosen files) ≡ false → (list_any chosen files ≡ false → chosen_lines files ≡ []) → lines_by b file files ≡ []
      by true e later = absurd (true≢false e)
      by false e later = later e

  pub reported_so_far : (files : Tree) → unwrap_or (lines_where chosen files) [] ≡ chosen_lines files
  reported_so_far files = by (list_any chosen files) refl
    where
      by : (b : Bool) → list_any chosen files ≡ b → unwrap_or (if b then Some (chosen_lines files) else None) [] ≡ chosen_lines files
      by true e = refl
      by false e = sym (no_lines files e)

  any_more : (files : Tree) (file : List ℕ × List ℕ) → list_any chosen (files ++ file ∷ []) ≡ (list_any chosen files || chosen file)
  any_more files file = list_any-append chosen files (file ∷ []) ∙ ap (λ b. list_any chosen files || b) (or_false (chosen file))

  lines_more : (files : Tree) (file : List ℕ × List ℕ) → chosen_lines (files ++ file ∷ []) ≡ chosen_lines files ++ lines_by (chosen file) file []
  lines_more files file =
      ap (flat_map (λ (f : List ℕ × List ℕ). path_line f.0)) (filter-append chosen files (file ∷ []))
      ∙ flat_map-append (λ (f : List ℕ × List ℕ). path_line f.0) (filter chosen files) (filter chosen (file ∷ []))

  pub lines_where_more : (files : Tree) (file : List ℕ × List ℕ) → lines_where chosen (files ++ file ∷ []) ≡ with_path file.0 (chosen file) (lines_where chosen files)
  lines_where_more files file =
      ap (λ b. if b then Some (chosen_lines (files ++ file ∷ [])) else None) (any_more files file)
      ∙ ap (λ lines. if list_any chosen files || chosen file then Some lines else None) (lines_more files file)
      ∙ by (chosen file)
    where
      first : (a : Bool) → (a || true) ≡ true
      first true = refl
      first false = refl

      by : (b : Bool) → (if list_any chosen files || b then Some (chosen_lines files ++ lines_by b file []) else None) ≡ with_path file.0 b (lines_where chosen files)
      by true =
          ap (λ a. if a then Some (chosen_lines files ++ (path_line file.0 ++ [])) else None) (first (list_any chosen files))
          ∙ ap (λ line. Some (chosen_lines files ++ line)) (append-nil (path_line file.0))
          ∙ ap (λ lines. Some (lines ++ path_line file.0)) (sym (reported_so_far files))
      by false =
          ap (λ a. if a then Some (chosen_lines files ++ []) else None) (or_false (list_any chosen files))
          ∙ ap (λ lines. if list_any chosen files then Some lines else None) (append-nil (chosen_lines files))
