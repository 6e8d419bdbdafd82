-- The result from the old index and the files that changed satisfies its definition.
use Rattle.std.proofs.Common.{◌≡◌, ℕ, Bool, true, false, ◌&&◌, ◌||◌, not, T, List, [], ◌∷◌, Option, Some, None, unwrap_or, refl, sym, ap, subst, ◌∙◌, bytes_eq, IsTrue}
use Rattle.std.specs.FinMap.Entries.{is_sorted}
use Rattle.std.specs.List.{list_all, list_any}
use Rattle.bstr.specs.Text.{lines_of}
use Rattle.bstr.proofs.lemmas.LineLemmas.{lines-nil}
use Rattle.gb_core.specs.Place.{is_rel_path}
use Rattle.gb_core.specs.Lists.{byte_order}
use Rattle.gb_action.specs.Files.{Tree, file_at}
use Rattle.gb_action.specs.declared.change.Change.{Change}
use Rattle.gb_kinds.specs.Carried.{as_files, holds_in, is_carried, is_line_of, is_looked_at, is_of_change, lines_where, path_of, reported_at, IsCarried, IsEntry}
use Rattle.gb_kinds.specs.Words.{path_line}
use Rattle.gb_kinds.proofs.CarriedLines.{are_lines, at_path, first_is, lines_cut, on, path_is_line, second_is, shows}
use Rattle.gb_kinds.proofs.LinesWhere.{reported_so_far}
use Rattle.gb_kinds.proofs.WordFiles.{both}

pub same_any : {X : Type 0} (left right : X → Bool) → ((x : X) → left x ≡ right x) → (xs : List X) → list_any left xs ≡ list_any right xs
same_any left right h [] = refl
same_any left right h (x ∷ xs) = ap (λ b. b || list_any left xs) (h x) ∙ ap (λ b. right x || b) (same_any left right h xs)

-- an entry by another test that is the same
pub same_entry : (left right : List ℕ → Bool) → ((line : List ℕ) → left line ≡ right line) → (entry : Option (List ℕ)) → IsEntry left entry → IsEntry right entry
same_entry left right h entry is = record { lines = is.lines; in_order = is.in_order; exactly = λ line. is.exactly line ∙ h line; joined = is.joined }

changed_lines : (changes : List Change) → list_all (λ (c : Change). is_rel_path (path_of c)) changes ≡ true → are_lines (as_files changes) ≡ true
changed_lines [] h = refl
changed_lines (change ∷ changes) h = both _ _ (path_is_line (path_of change) (first_is (is_rel_path (path_of change)) _ h)) (changed_lines changes (second_is (is_rel_path (path_of change)) _ h))

of_changes : (test : List ℕ → Bool) (changes : List Change) → list_any (λ (f : List ℕ × List ℕ). test f.0) (as_files changes) ≡ list_any (λ (c : Change). test (path_of c)) changes
of_changes test [] = refl
of_changes test (change ∷ changes) = ap (λ b. test (path_of change) || b) (of_changes test changes)

module _ (existing : Tree) (changes : List Change) (files index new : Tree) (gone looked_at words : List ℕ → Bool) (sorted : IsTrue (is_sorted byte_order existing))
    (lines : (line : List ℕ) → gone line ≡ is_of_change changes line)
    (held : (word : List ℕ) → words word ≡ list_any (λ (c : Change). holds_in (file_at files (path_of c)) word) changes)
    (news : (word : List ℕ) → file_at new word ≡ lines_where (λ (f : List ℕ × List ℕ). holds_in (file_at files f.0) word) (as_files changes))
    (looks : (word : List ℕ) → looked_at word ≡ (words word || list_any (λ (f : List ℕ × List ℕ). bytes_eq f.0 word && list_any gone (lines_of f.1)) existing))
    (changed_paths : IsTrue (list_all (λ (c : Change). is_rel_path (path_of c)) changes)) where
  looked : (word : List ℕ) → looked_at word ≡ is_looked_at existing changes files word
  looked word =
      looks word
      ∙ ap (λ b. b || list_any (λ (f : List ℕ × List ℕ). bytes_eq f.0 word && list_any gone (lines_of f.1)) existing) (held word)
      ∙ ap (λ b. list_any (λ (c : Change). holds_in (file_at files (path_of c)) word) changes || b)
      (at_path word (λ reported. list_any gone (lines_of reported)) existing (subst T (sym sorted) tt) ∙ by (file_at existing word) ∙ same_any gone (is_of_change changes) lines (reported_at existing word))
    where
      by : (o : Option (List ℕ)) → on (λ reported. list_any gone (lines_of reported)) o ≡ list_any gone (lines_of (unwrap_or o []))
      by None = ap (list_any gone) (sym lines-nil)
      by (Some reported) = refl

  carried : (word line : List ℕ) → is_line_of (unwrap_or (file_at existing word) []) gone (unwrap_or (file_at new word) []) line ≡ is_carried existing changes files word line
  carried word line =
      let chosen = λ (f : List ℕ × List ℕ). holds_in (file_at files f.0) word in
      ap (λ b. (list_any (bytes_eq line) (reported_at existing word) && not b) || list_any (bytes_eq line) (lines_of (unwrap_or (file_at new word) []))) (lines line)
      ∙ ap (λ b. (list_any (bytes_eq line) (reported_at existing word) && not (is_of_change changes line)) || b)
      (ap (λ o. list_any (bytes_eq line) (lines_of (unwrap_or o []))) (news word)
      ∙ ap (λ reported. list_any (bytes_eq line) (lines_of reported)) (reported_so_far chosen (as_files changes))
      ∙ ap (list_any (bytes_eq line)) (lines_cut chosen (as_files changes) (changed_lines changes changed_paths))
      ∙ shows chosen line (as_files changes)
      ∙ of_changes (λ path. bytes_eq (path_line path) line && holds_in (file_at files path) word) changes)

  pub is_found : IsTrue (is_sorted byte_order index)
      → ((word : List ℕ) → looked_at word ≡ true → IsEntry (is_line_of (unwrap_or (file_at existing word) []) gone (unwrap_or (file_at new word) [])) (file_at index word))
      → ((word : List ℕ) → looked_at word ≡ false → file_at index word ≡ None)
      → IsTrue (is_sorted byte_order files) → IsTrue (list_all (λ (f : List ℕ × List ℕ). is_rel_path f.0) files) → IsCarried existing changes files looked_at index
  is_found ordered entries others in_order paths = record {
    looked = looked;
    ordered = ordered;
    entries = λ word at. same_entry (is_line_of (unwrap_or (file_at existing word) []) gone (unwrap_or (file_at new word) [])) (is_carried existing changes files word) (carried word) (file_at index word) (entries word (looked word ∙ at));
    others = λ word at. others word (looked word ∙ at);
    in_order = in_order;
    paths = paths;
    changed_paths = changed_paths;
  }
