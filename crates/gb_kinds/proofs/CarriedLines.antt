-- The lines of an index, and their paths.
use Rattle.std.proofs.Common.{arith, ◌≡◌, ◌≢◌, ◌==◌, ℕ, suc, Bool, true, false, true≢false, cond, not, ◌&&◌, ◌||◌, T, if◌then◌else◌, List, [], ◌∷◌, ◌++◌, length, map, take, drop, nat_le, Option, Some, None, refl, sym, ap, subst, ◌∙◌, bytes_eq, length-append}
use Rattle.std.proofs.Math.Seq.{take-append_seam, drop-append_seam}
use Rattle.std.proofs.lemmas.Bool.{leb-true, ne_eqb}
use Rattle.std.specs.Cmp.Lexicographic.{bytes_decides, nat_list_eq_equiv}
use Rattle.std.specs.FinMap.Entries.{below_all, is_sorted}
use Rattle.std.specs.List.{filter, flat_map, list_all, list_any}
use Rattle.bstr.specs.Text.{line_len, lines_of}
use Rattle.bstr.proofs.lemmas.LineLemmas.{lines-nil, lines-step}
use Rattle.gb_core.specs.Place.{is_printable, is_rel_path}
use Rattle.gb_core.specs.Lists.{byte_order}
use Rattle.gb_action.specs.Files.{Tree, file_at}
use Rattle.gb_core.proofs.Found.{find-same, find-other}
use Rattle.gb_kinds.specs.Words.{path_line}
use Rattle.gb_kinds.proofs.LinesWhere.{chosen_lines}
use Rattle.gb_kinds.proofs.WordSets.{or_false}
use Rattle.gb_kinds.proofs.Writing.{below, first, second}

pub first_is : (a b : Bool) → (a && b) ≡ true → a ≡ true
first_is true b e = refl
first_is false b e = e

pub second_is : (a b : Bool) → (a && b) ≡ true → b ≡ true
second_is true b e = e
second_is false b e = absurd (true≢false (sym e))

-- ---- The one file of a path

-- there are bytes, and they satisfy the test
abbrev pub on : (List ℕ → Bool) → Option (List ℕ) → Bool
on test None = false
on test (Some bytes) = test bytes

module _ (path : List ℕ) (test : List ℕ → Bool) where
  pub at_path : (files : Tree) → T (is_sorted byte_order files) → list_any (λ (f : List ℕ × List ℕ). bytes_eq f.0 path && test f.1) files ≡ on test (file_at files path)
  at_path [] h = refl
  at_path (file ∷ files) h =
      ap (λ b. (bytes_eq file.0 path && test file.1) || b) (at_path files (second (below_all byte_order file.0 files) _ h))
      ∙ by (bytes_eq file.0 path) refl
    where
      by : (b : Bool) → bytes_eq file.0 path ≡ b → ((b && test file.1) || on test (file_at files path)) ≡ on test (file_at (file ∷ files) path)
      by true e =
          let is : file.0 ≡ path = (bytes_decides file.0 path).0 e in
          let absent : file_at files path ≡ None = subst (λ q. file_at files q ≡ None) is (below file.0 files (first (below_all byte_order file.0 files) _ h)) in
          ap (λ o. test file.1 || on test o) absent
          ∙ or_false (test file.1)
          ∙ ap (on test) (sym (find-same path file files is))
      by false e =
          let other : file.0 ≢ path = λ is. true≢false (sym ((bytes_decides file.0 path).1 is) ∙ e) in
          ap (on test) (sym (find-other path file files other))

-- ---- Lines that paths make

-- no byte of it is a line feed
abbrev pub is_one_line : List ℕ → Bool
is_one_line path = list_all (λ byte. not (byte == 10)) path

no_line_feed : (byte : ℕ) → is_printable byte ≡ true → not (byte == 10) ≡ true
no_line_feed byte h =
    let low = leb-true 32 byte (first_is (nat_le 32 byte) _ h) in
    ap not (ne_eqb byte 10 (λ is. omega (arith, low, is)))

all_printable : (path : List ℕ) → list_all is_printable path ≡ true → is_one_line path ≡ true
all_printable [] h = refl
all_printable (byte ∷ path) h = both _ _ (no_line_feed byte (first_is (is_printable byte) _ h)) (all_printable path (second_is (is_printable byte) _ h))
  where
    both : (a b : Bool) → a ≡ true → b ≡ true → (a && b) ≡ true
    both true b p q = q
    both false b p q = p

pub path_is_line : (path : List ℕ) → is_rel_path path ≡ true → is_one_line path ≡ true
path_is_line [] h = refl
path_is_line (byte ∷ path) h =
    all_printable (byte ∷ path) (second_is (nat_le (length (byte ∷ path)) 1024) _ (first_is (nat_le (length (byte ∷ path)) 1024 && list_all is_printable (byte ∷ path)) _ h))

len_of : (path rest : List ℕ) → is_one_line path ≡ true → line_len (path_line path ++ rest) ≡ length (path_line path)
unfolding line_len
len_of [] rest h = refl
len_of (byte ∷ path) rest h =
    let other : (byte == 10) ≡ false = negated (byte == 10) (first_is (not (byte == 10)) _ h) in
    ap (λ b. cond b 1 (suc (line_len (path_line path ++ rest)))) other ∙ ap suc (len_of path rest (second_is (not (byte == 10)) _ h))
  where
    negated : (b : Bool) → not b ≡ true → b ≡ false
    negated true e = sym e
    negated false e = refl

first_line : (path rest : List ℕ) → is_one_line path ≡ true → lines_of (path_line path ++ rest) ≡ path_line path ∷ lines_of rest
first_line path rest h =
    lines-step (path_line path ++ rest) (omega (arith, length-append (path_line path) rest, length-append path (10 ∷ [])))
    ∙ ap (λ n. take n (path_line path ++ rest) ∷ lines_of (drop n (path_line path ++ rest))) (len_of path rest h)
    ∙ ap (λ line. line ∷ lines_of (drop (length (path_line path)) (path_line path ++ rest))) (take-append_seam (path_line path) rest)
    ∙ ap (λ left. path_line path ∷ lines_of left) (drop-append_seam (path_line path) rest)

abbrev pub are_lines : Tree → Bool
are_lines files = list_all (λ (f : List ℕ × List ℕ). is_one_line f.0) files

module _ (chosen : List ℕ × List ℕ → Bool) where
  -- the lines of chosen files, cut
  pub lines_cut : (files : Tree) → are_lines files ≡ true → lines_of (chosen_lines chosen files) ≡ map (λ (f : List ℕ × List ℕ). path_line f.0) (filter chosen files)
  lines_cut [] h = lines-nil
  lines_cut (file ∷ files) h = by (chosen file) (lines_cut files (second_is (is_one_line file.0) _ h))
    where
      by : (b : Bool) → lines_of (chosen_lines chosen files) ≡ map (λ (f : List ℕ × List ℕ). path_line f.0) (filter chosen files)
          → lines_of (flat_map (λ (f : List ℕ × List ℕ). path_line f.0) (if b then file ∷ filter chosen files else filter chosen files))
          ≡ map (λ (f : List ℕ × List ℕ). path_line f.0) (if b then file ∷ filter chosen files else filter chosen files)
      by true later = first_line file.0 (chosen_lines chosen files) (first_is (is_one_line file.0) _ h) ∙ ap (λ (lines : List (List ℕ)). path_line file.0 ∷ lines) later
      by false later = later

  -- a line among them
  pub shows : (line : List ℕ) (files : Tree) → list_any (bytes_eq line) (map (λ (f : List ℕ × List ℕ). path_line f.0) (filter chosen files)) ≡ list_any (λ (f : List ℕ × List ℕ). bytes_eq (path_line f.0) line && chosen f) files
  shows line [] = refl
  shows line (file ∷ files) = by (chosen file) ∙ ap (λ b. (bytes_eq (path_line file.0) line && chosen file) || b) (shows line files)
    where
      none : (b : Bool) → (b && false) ≡ false
      none true = refl
      none false = refl

      one : (b : Bool) → (b && true) ≡ b
      one true = refl
      one false = refl

      by : (b : Bool) → list_any (bytes_eq line) (map (λ (f : List ℕ × List ℕ). path_line f.0) (if b then file ∷ filter chosen files else filter chosen files))
          ≡ ((bytes_eq (path_line file.0) line && b) || list_any (bytes_eq line) (map (λ (f : List ℕ × List ℕ). path_line f.0) (filter chosen files)))
      by true = ap (λ b. b || list_any (bytes_eq line) (map (λ (f : List ℕ × List ℕ). path_line f.0) (filter chosen files))) (nat_list_eq_equiv.symm line (path_line file.0) ∙ sym (one (bytes_eq (path_line file.0) line)))
      by false = ap (λ b. b || list_any (bytes_eq line) (map (λ (f : List ℕ × List ℕ). path_line f.0) (filter chosen files))) (sym (none (bytes_eq (path_line file.0) line)))
