-- The data collected from changed files, and the files that are made from it.
use Rattle.std.proofs.Common.{◌≡◌, ◌≢◌, ℕ, Bool, true, false, cond, ◌&&◌, ◌||◌, not, if◌then◌else◌, List, [], ◌∷◌, ◌++◌, ◌+◌, ◌<◌, length, take, get_or, Option, Some, None, refl, sym, ap, subst, ◌∙◌, bytes_eq, IsTrue}
use Rattle.std.proofs.lemmas.List.{append_cancel_right, map-append, take_more}
use Rattle.std.proofs.lemmas.List.Folds.{list_all-append, list_any-append}
use Rattle.std.proofs.lemmas.Map.Text.{is_eq-slice_cmp}
use Rattle.std.specs.BTreeSet.{BTreeSet, contains}
use Rattle.std.specs.Cmp.Lexicographic.{bytes_decides, nat_list_eq_equiv}
use Rattle.std.specs.List.{concat, list_all, list_any}
use Rattle.std.specs.List.Sorted.{IsStrictlySortedBy}
use Rattle.std.specs.Option.{option_or}
use Rattle.std.specs.Ordering.{eq_by_cmp}
use Rattle.gb_core.specs.Place.{is_rel_path}
use Rattle.gb_core.specs.Lists.{byte_order}
use Rattle.gb_action.specs.Files.{Tree, file_at}
use Rattle.gb_action.specs.declared.change.Change.{Change}
use Rattle.gb_kinds.specs.Carried.{as_files, file_of_lines, holds_in, lines_where, path_of}
use Rattle.gb_kinds.specs.Words.{path_line, with_path}
use Rattle.gb_kinds.proofs.LinesWhere.{lines_where_more}
use Rattle.gb_kinds.proofs.WordFiles.{both, first_of, not_later}
use Rattle.gb_kinds.proofs.WordSets.{or_false}
use Rattle.gb_kinds.proofs.Writing.{or_none}

pub either : (a : Bool) → (a || true) ≡ true
either true = refl
either false = refl

pub same_line : (path other : List ℕ) → bytes_eq (path_line path) (path_line other) ≡ bytes_eq path other
same_line path other = by (bytes_eq path other) refl
  where
    by : (b : Bool) → bytes_eq path other ≡ b → bytes_eq (path_line path) (path_line other) ≡ b
    by true e = (bytes_decides (path_line path) (path_line other)).1 (ap path_line ((bytes_decides path other).0 e))
    by false e = separate (bytes_eq (path_line path) (path_line other)) refl
      where
        separate : (c : Bool) → bytes_eq (path_line path) (path_line other) ≡ c → c ≡ false
        separate true is = sym ((bytes_decides path other).1 (append_cancel_right path other (10 ∷ []) ((bytes_decides (path_line path) (path_line other)).0 is))) ∙ e
        separate false is = refl

-- a key that is added to a set
pub or_more : (key other : List ℕ) (before : Bool) → cond (eq_by_cmp byte_order key other) true before ≡ (before || bytes_eq key other)
or_more key other before = ap (λ b. cond b true before) (is_eq-slice_cmp key other) ∙ by (bytes_eq key other) before
  where
    by : (b before : Bool) → cond b true before ≡ (before || b)
    by true true = refl
    by true false = refl
    by false true = refl
    by false false = refl

-- a key that moves from the rest into the set
pub turn : (a b c : Bool) → ((a || b) || c) ≡ (a || (b || c))
turn true b c = refl
turn false b c = refl

pub line_taken : (line key : List ℕ) (rest : List (List ℕ)) (before : Bool) → ((before || bytes_eq key line) || list_any (bytes_eq line) rest) ≡ (before || list_any (bytes_eq line) (key ∷ rest))
line_taken line key rest before = turn before (bytes_eq key line) (list_any (bytes_eq line) rest) ∙ ap (λ b. before || (b || list_any (bytes_eq line) rest)) (nat_list_eq_equiv.symm key line)

pub word_taken : (word key : List ℕ) (rest : List (List ℕ)) (before : Bool) → (cond (eq_by_cmp byte_order key word) true before || list_any (eq_by_cmp byte_order word) rest) ≡ (before || list_any (eq_by_cmp byte_order word) (key ∷ rest))
word_taken word key rest before =
    ap (λ b. b || list_any (eq_by_cmp byte_order word) rest) (or_more key word before)
    ∙ turn before (bytes_eq key word) (list_any (eq_by_cmp byte_order word) rest)
    ∙ ap (λ b. before || (b || list_any (eq_by_cmp byte_order word) rest)) (nat_list_eq_equiv.symm key word ∙ sym (is_eq-slice_cmp word key))

-- a line that is not gone is added
pub kept_taken : (gone : List ℕ → Bool) (line key : List ℕ) (rest : List (List ℕ)) (before : Bool) → gone key ≡ false
    → ((before || bytes_eq key line) || (list_any (bytes_eq line) rest && not (gone line))) ≡ (before || (list_any (bytes_eq line) (key ∷ rest) && not (gone line)))
kept_taken gone line key rest before here =
    ap (λ b. (before || b) || (list_any (bytes_eq line) rest && not (gone line))) (nat_list_eq_equiv.symm key line)
    ∙ by (bytes_eq line key) refl
  where
    by : (b : Bool) → bytes_eq line key ≡ b → ((before || b) || (list_any (bytes_eq line) rest && not (gone line))) ≡ (before || ((b || list_any (bytes_eq line) rest) && not (gone line)))
    by true e =
        ap (λ b. b || (list_any (bytes_eq line) rest && not (gone line))) (either before)
        ∙ sym (ap (λ g. before || not g) (ap gone ((bytes_decides line key).0 e) ∙ here) ∙ either before)
    by false e = ap (λ b. b || (list_any (bytes_eq line) rest && not (gone line))) (or_false before)

-- a set of lines, by the bytes of each
pub has_line : (lines : BTreeSet (List ℕ)) (line : List ℕ) → list_any (bytes_eq line) lines.keys ≡ contains byte_order lines line
has_line lines line = by lines.keys
  where
    by : (keys : List (List ℕ)) → list_any (bytes_eq line) keys ≡ list_any (eq_by_cmp byte_order line) keys
    by [] = refl
    by (key ∷ keys) = ap (λ b. b || list_any (bytes_eq line) keys) (sym (is_eq-slice_cmp line key)) ∙ ap (λ b. eq_by_cmp byte_order line key || b) (by keys)

-- lines make a file if there are any
pub filled : (lines : List (List ℕ)) → (lines ≢ []) → file_of_lines lines ≡ Some (concat lines)
filled [] h = absurd (h refl)
filled (line ∷ lines) h = refl

-- ---- One more change

module _ (files : Tree) (changes : List Change) (i : ℕ) (change : Change) (within : i < length changes) (item : change ≡ get_or changes i change) where
  taken : take (i + 1) changes ≡ take i changes ++ change ∷ []
  taken = take_more changes i change within ∙ ap (λ c. take i changes ++ c ∷ []) (sym item)

  pub any_more : (test : Change → Bool) → list_any test (take (i + 1) changes) ≡ (list_any test (take i changes) || test change)
  any_more test =
      ap (list_any test) taken
      ∙ list_any-append test (take i changes) (change ∷ [])
      ∙ ap (λ b. list_any test (take i changes) || b) (or_false (test change))

  pub paths_more : IsTrue (list_all (λ (c : Change). is_rel_path (path_of c)) (take i changes)) → IsTrue (is_rel_path (path_of change)) → IsTrue (list_all (λ (c : Change). is_rel_path (path_of c)) (take (i + 1) changes))
  paths_more before here =
      ap (list_all (λ (c : Change). is_rel_path (path_of c))) taken
      ∙ list_all-append (λ (c : Change). is_rel_path (path_of c)) (take i changes) (change ∷ [])
      ∙ both _ _ before (both _ _ here refl)

  pub entries_more : (word : List ℕ) → lines_where (λ (f : List ℕ × List ℕ). holds_in (file_at files f.0) word) (as_files (take (i + 1) changes))
      ≡ with_path (path_of change) (holds_in (file_at files (path_of change)) word) (lines_where (λ (f : List ℕ × List ℕ). holds_in (file_at files f.0) word) (as_files (take i changes)))
  entries_more word =
      ap (λ cs. lines_where (λ (f : List ℕ × List ℕ). holds_in (file_at files f.0) word) (as_files cs)) taken
      ∙ ap (lines_where (λ (f : List ℕ × List ℕ). holds_in (file_at files f.0) word)) (map-append (λ (c : Change). (path_of c, [])) (take i changes) (change ∷ []))
      ∙ lines_where_more (λ (f : List ℕ × List ℕ). holds_in (file_at files f.0) word) (as_files (take i changes)) (path_of change, [])

-- one more file of an index in which words are searched
pub reported_more : (test : List ℕ × List ℕ → Bool) (files : Tree) (i : ℕ) (file : List ℕ × List ℕ) → i < length files → file ≡ get_or files i file
    → list_any test (take (i + 1) files) ≡ (list_any test (take i files) || test file)
reported_more test files i file within is =
    ap (list_any test) (take_more files i file within ∙ ap (λ f. take i files ++ f ∷ []) (sym is))
    ∙ list_any-append test (take i files) (file ∷ [])
    ∙ ap (λ b. list_any test (take i files) || b) (or_false (test file))

-- ---- One more word

-- a word that is examined has its file, among those that had none before
module _ (Is : List ℕ → Option (List ℕ) → Type 0) (has : List ℕ → Bool) (word : List ℕ) (rest : List (List ℕ)) (distinct : IsStrictlySortedBy byte_order (word ∷ rest)) (before after : Tree) (lines : List (List ℕ))
    (adds : (q : List ℕ) → file_at after q ≡ (if bytes_eq word q then option_or (file_of_lines lines) (file_at before q) else file_at before q))
    (is : Is word (file_of_lines lines))
    (within : (q : List ℕ) → list_any (eq_by_cmp byte_order q) (word ∷ rest) ≡ true → has q ≡ true)
    (entries : (q : List ℕ) → has q ≡ true → list_any (eq_by_cmp byte_order q) (word ∷ rest) ≡ false → Is q (file_at before q))
    (left : (q : List ℕ) → list_any (eq_by_cmp byte_order q) (word ∷ rest) ≡ true → file_at before q ≡ None)
    (others : (q : List ℕ) → has q ≡ false → file_at before q ≡ None) where
  named : (q : List ℕ) → eq_by_cmp byte_order q word ≡ bytes_eq word q
  named q = is_eq-slice_cmp q word ∙ nat_list_eq_equiv.symm q word

  here : list_any (eq_by_cmp byte_order word) (word ∷ rest) ≡ true
  here = ap (λ b. b || list_any (eq_by_cmp byte_order word) rest) (named word ∙ (bytes_decides word word).1 refl)

  separate : (q : List ℕ) → bytes_eq word q ≡ false → file_at after q ≡ file_at before q
  separate q e = adds q ∙ ap (λ b. if b then option_or (file_of_lines lines) (file_at before q) else file_at before q) e

  in_rest : (q : List ℕ) (b : Bool) → list_any (eq_by_cmp byte_order q) rest ≡ b → bytes_eq word q ≡ false → list_any (eq_by_cmp byte_order q) (word ∷ rest) ≡ b
  in_rest q b e other = ap (λ x. x || list_any (eq_by_cmp byte_order q) rest) (named q ∙ other) ∙ e

  not_again : (q : List ℕ) → list_any (eq_by_cmp byte_order q) rest ≡ true → bytes_eq word q ≡ false
  not_again q e = by (bytes_eq word q) refl
    where
      by : (b : Bool) → bytes_eq word q ≡ b → b ≡ false
      by true same = sym e ∙ ap (λ x. list_any (eq_by_cmp byte_order x) rest) (sym ((bytes_decides word q).0 same)) ∙ not_later word rest (first_of word rest distinct)
      by false same = refl

  pub within_later : (q : List ℕ) → list_any (eq_by_cmp byte_order q) rest ≡ true → has q ≡ true
  within_later q e = within q (in_rest q true e (not_again q e))

  pub left_later : (q : List ℕ) → list_any (eq_by_cmp byte_order q) rest ≡ true → file_at after q ≡ None
  left_later q e = separate q (not_again q e) ∙ left q (in_rest q true e (not_again q e))

  pub others_later : (q : List ℕ) → has q ≡ false → file_at after q ≡ None
  others_later q e = separate q (by (bytes_eq word q) refl) ∙ others q e
    where
      by : (b : Bool) → bytes_eq word q ≡ b → b ≡ false
      by true same = sym (within word here) ∙ ap has ((bytes_decides word q).0 same) ∙ e
      by false same = refl

  pub entries_later : (q : List ℕ) → has q ≡ true → list_any (eq_by_cmp byte_order q) rest ≡ false → Is q (file_at after q)
  entries_later q e gone = by (bytes_eq word q) refl
    where
      by : (b : Bool) → bytes_eq word q ≡ b → Is q (file_at after q)
      by true same =
          let is_word : word ≡ q = (bytes_decides word q).0 same in
          subst (λ x. Is x (file_at after x)) is_word
          (subst (Is word) (sym (adds word ∙ ap (λ b. if b then option_or (file_of_lines lines) (file_at before word) else file_at before word) ((bytes_decides word word).1 refl) ∙ ap (option_or (file_of_lines lines)) (left word here) ∙ or_none (file_of_lines lines))) is)
      by false same = subst (Is q) (sym (separate q same)) (entries q e (in_rest q false gone same))

-- ---- Files that were visited

pub files_more : (files : Tree) (i : ℕ) (file : List ℕ × List ℕ) → i < length files → file ≡ get_or files i file
    → IsTrue (list_all (λ (f : List ℕ × List ℕ). is_rel_path f.0) (take i files)) → IsTrue (is_rel_path file.0) → IsTrue (list_all (λ (f : List ℕ × List ℕ). is_rel_path f.0) (take (i + 1) files))
files_more files i file within is before here =
    ap (list_all (λ (f : List ℕ × List ℕ). is_rel_path f.0)) (take_more files i file within ∙ ap (λ f. take i files ++ f ∷ []) (sym is))
    ∙ list_all-append (λ (f : List ℕ × List ℕ). is_rel_path f.0) (take i files) (file ∷ [])
    ∙ both _ _ before (both _ _ here refl)
