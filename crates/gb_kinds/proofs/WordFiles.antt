-- The files that list for each word the files with it.
use Rattle.std.proofs.Common.{◌≡◌, ◌≢◌, ℕ, Bool, true, false, true≢false, cond, ◌||◌, if◌then◌else◌, List, [], ◌∷◌, ◌++◌, map, Option, Some, None, is_some, unwrap_or, refl, sym, ap, subst, ◌∙◌, bytes_eq, IsTrue, T, ◌&&◌, ◌<◌, ◌+◌, length, take, get_or}
use Rattle.std.proofs.lemmas.List.{take_more}
use Rattle.std.proofs.lemmas.List.Folds.{list_any-append}
use Rattle.std.proofs.lemmas.Map.Text.{is_eq-slice_cmp}
use Rattle.std.specs.BTreeMap.{get, is_at}
use Rattle.std.specs.Global.{Global}
use Rattle.std.specs.Map.{lookup}
use Rattle.std.specs.Option.{option_map}
use Rattle.std.specs.declared.vec.Vec.{Vec}
use Rattle.std.specs.declared.cmp.Ordering.TheVariants.{Less}
use Rattle.std.specs.List.Sorted.{IsStrictlySortedBy}
use Rattle.std.specs.Cmp.Lexicographic.{bytes_decides, nat_list_cmp_total, nat_list_eq_equiv}
use Rattle.std.specs.FinMap.Entries.{find, below_all, is_sorted, same_entries}
use Rattle.std.specs.List.{AllByRecursion, flat_map, list_any}
use Rattle.std.specs.Ordering.{eq_by_cmp, is_eq, is_lt}
use Rattle.gb_action.specs.Changes.{in_order}
use Rattle.gb_core.specs.Lists.{byte_order}
use Rattle.gb_action.specs.Files.{Tree, file_at}
use Rattle.gb_core.proofs.Found.{tied_same, find-same, find-other}
use Rattle.gb_action.proofs.Ordered.{ordered-put}
use Rattle.gb_action.proofs.Reported.{in_order-find}
use Rattle.gb_kinds.specs.Words.{Index, holds_word, index_files, index_of, lines_for, path_line, with_path, words_of}
use Rattle.gb_kinds.specs.Carried.{lines_where}
use Rattle.gb_kinds.proofs.LinesWhere.{lines_where_more}

-- a file contains the word
abbrev pub is_in : List ℕ → Tree → Bool
is_in word files = list_any (λ file. holds_word word file.1) files

-- the entry of a word
abbrev pub entry_of : List ℕ → Tree → Option (List ℕ)
entry_of word files = lines_where (λ file. holds_word word file.1) files

-- ---- The index

-- entries as files
abbrev pub observed : List (List ℕ × Vec ℕ Global) → Tree
observed entries = map (λ (e : List ℕ × Vec ℕ Global). (e.0, e.1.items)) entries

abbrev pub items : Vec ℕ Global → List ℕ
items v = v.items

abbrev Entries : Type 0
Entries = List (List ℕ × Vec ℕ Global)

found : (q : List ℕ) (es : Entries) → find byte_order q (map (λ (e : List ℕ × Vec ℕ Global). (e.0, e.1.items)) es) ≡ option_map items (lookup (is_at (byte_order q)) es)
found q [] = refl
found q (e ∷ es) =
    elim (eq_by_cmp byte_order q e.0) as (λ b. cond b (Some e.1.items) (find byte_order q (map (λ (e : List ℕ × Vec ℕ Global). (e.0, e.1.items)) es)) ≡ option_map items (cond b (Some e.1) (lookup (is_at (byte_order q)) es))) [
      | true ↦ refl
      | false ↦ found q es
    ]

pub file_in : (q : List ℕ) (index : Index) → file_at (index_files index) q ≡ option_map items (get byte_order index q)
file_in q index = found q index.entries

-- a file that is inserted
module _ (word : List ℕ) (before after : Index) (key : List ℕ) (lines : Vec ℕ Global) (is : key ≡ word)
    (puts : (q : List ℕ) → get byte_order after q ≡ cond (is_at (byte_order key) q) (Some lines) (get byte_order before q)) where
  pub file_put : (other : List ℕ) → file_at (index_files after) other ≡ (if bytes_eq word other then Some lines.items else file_at (index_files before) other)
  file_put other =
      found other after.entries
      ∙ ap (option_map items) (puts other ∙ ap (λ k. cond (is_at (byte_order k) other) (Some lines) (get byte_order before other)) is)
      ∙ ap (λ b. option_map items (cond b (Some lines) (get byte_order before other))) (is_eq-slice_cmp word other)
      ∙ by (bytes_eq word other)
    where
      by : (b : Bool) → option_map items (cond b (Some lines) (get byte_order before other)) ≡ (if b then Some lines.items else file_at (index_files before) other)
      by true = refl
      by false = sym (found other before.entries)

pub is_found : (q : List ℕ) (es : Entries) → is_some (lookup (is_at (byte_order q)) es) ≡ is_some (file_at (observed es) q)
is_found q es = by (lookup (is_at (byte_order q)) es) ∙ ap is_some (sym (found q es))
  where
    by : (o : Option (Vec ℕ Global)) → is_some o ≡ is_some (option_map items o)
    by None = refl
    by (Some x) = refl

pub both : (a b : Bool) → a ≡ true → b ≡ true → (a && b) ≡ true
both true b p q = q
both false b p q = p

pub ordered : (es : Entries) → IsStrictlySortedBy byte_order (map (λ (e : List ℕ × Vec ℕ Global). e.0) es) → is_sorted byte_order (map {B = List ℕ × List ℕ} (λ (e : List ℕ × Vec ℕ Global). (e.0, e.1.items)) es) ≡ true
unfolding IsStrictlySortedBy
ordered [] h = refl
ordered (e ∷ es) h = both _ _ (below es h.0) (ordered es h.1)
  where
    below : (fs : Entries) → AllByRecursion (λ (y : List ℕ). byte_order e.0 y ≡ Less) (map (λ (f : List ℕ × Vec ℕ Global). f.0) fs) → below_all byte_order e.0 (map {B = List ℕ × List ℕ} (λ (f : List ℕ × Vec ℕ Global). (f.0, f.1.items)) fs) ≡ true
    below [] g = refl
    below (f ∷ fs) g = both _ _ (ap is_lt g.0) (below fs g.1)

-- a value that is removed and inserted again with a line appended
module _ (word path : List ℕ) (before taken after : Index) (key : List ℕ) (lines : Vec ℕ Global) (is : key ≡ word)
    (takes : (q : List ℕ) → get byte_order taken q ≡ cond (is_at (byte_order word) q) None (get byte_order before q))
    (puts : (q : List ℕ) → get byte_order after q ≡ cond (is_at (byte_order key) q) (Some lines) (get byte_order taken q))
    (longer : lines.items ≡ unwrap_or (option_map items (get byte_order before word)) [] ++ path_line path) where
  pub line_added : (other : List ℕ) → file_at (index_files after) other ≡ with_path path (bytes_eq word other) (file_at (index_files before) other)
  line_added other =
      found other after.entries
      ∙ ap (option_map items) (puts other ∙ ap (λ k. cond (is_at (byte_order k) other) (Some lines) (get byte_order taken other)) is ∙ ap (cond (is_at (byte_order word) other) (Some lines)) (takes other))
      ∙ ap (λ b. option_map items (cond b (Some lines) (cond b None (get byte_order before other)))) (is_eq-slice_cmp word other)
      ∙ by (bytes_eq word other) refl
    where
      by : (b : Bool) → bytes_eq word other ≡ b → option_map items (cond b (Some lines) (cond b None (get byte_order before other))) ≡ with_path path b (file_at (index_files before) other)
      by true e =
          ap Some (longer ∙ ap (λ o. unwrap_or o [] ++ path_line path) (sym (found word before.entries) ∙ ap (file_at (index_files before)) ((bytes_decides word other).0 e)))
      by false e = sym (found other before.entries)

pub or_nothing : (o : Option (Vec ℕ Global)) (v : Vec ℕ Global) → v.items ≡ [] → (unwrap_or o v).items ≡ unwrap_or (option_map items o) []
or_nothing None v e = e
or_nothing (Some x) v e = refl

-- ---- One file's words

-- a word is none of the later ones
pub not_later : (word : List ℕ) (rest : List (List ℕ)) → AllByRecursion (λ (y : List ℕ). byte_order word y ≡ Less) rest → list_any (eq_by_cmp byte_order word) rest ≡ false
not_later word [] h = refl
not_later word (y ∷ rest) h = ap (λ o. is_eq o || list_any (eq_by_cmp byte_order word) rest) h.0 ∙ not_later word rest h.1

pub first_of : (word : List ℕ) (rest : List (List ℕ)) → IsStrictlySortedBy byte_order (word ∷ rest) → AllByRecursion (λ (y : List ℕ). byte_order word y ≡ Less) rest
unfolding IsStrictlySortedBy
first_of word rest h = h.0

pub rest_of : (word : List ℕ) (rest : List (List ℕ)) → IsStrictlySortedBy byte_order (word ∷ rest) → IsStrictlySortedBy byte_order rest
unfolding IsStrictlySortedBy
rest_of word rest h = h.1

module _ (path word : List ℕ) (rest : List (List ℕ)) (distinct : IsStrictlySortedBy byte_order (word ∷ rest)) (before after : Tree)
    (adds : (q : List ℕ) → file_at after q ≡ with_path path (bytes_eq word q) (file_at before q)) where
  pub path_later : (q : List ℕ) → with_path path (list_any (eq_by_cmp byte_order q) rest) (file_at after q) ≡ with_path path (list_any (eq_by_cmp byte_order q) (word ∷ rest)) (file_at before q)
  path_later q =
      ap (with_path path (list_any (eq_by_cmp byte_order q) rest)) (adds q)
      ∙ by (bytes_eq word q) refl
      ∙ ap (λ b. with_path path (b || list_any (eq_by_cmp byte_order q) rest) (file_at before q)) (nat_list_eq_equiv.symm word q ∙ sym (is_eq-slice_cmp q word))
    where
      by : (b : Bool) → bytes_eq word q ≡ b → with_path path (list_any (eq_by_cmp byte_order q) rest) (with_path path b (file_at before q)) ≡ with_path path (b || list_any (eq_by_cmp byte_order q) rest) (file_at before q)
      by true e =
          ap (λ b. with_path path b (with_path path true (file_at before q)))
          (ap (λ x. list_any (eq_by_cmp byte_order x) rest) (sym ((bytes_decides word q).0 e)) ∙ not_later word rest (first_of word rest distinct))
      by false e = refl

-- ---- All files

-- the words of files, each with its lines
abbrev reported : Tree → List (List ℕ) → Tree
reported files words = map {B = List ℕ × List ℕ} (λ word. (word, lines_for word files)) words

abbrev all_words : Tree → List (List ℕ)
all_words files = flat_map (λ (file : List ℕ × List ℕ). words_of file.1) files

reported_at : (q : List ℕ) (files : Tree) (words : List (List ℕ)) → file_at (reported files words) q ≡ (if list_any (bytes_eq q) words then Some (lines_for q files) else None)
reported_at q files [] = refl
reported_at q files (word ∷ words) = by (bytes_eq q word) refl (reported_at q files words)
  where
    by : (b : Bool) → bytes_eq q word ≡ b → file_at (reported files words) q ≡ (if list_any (bytes_eq q) words then Some (lines_for q files) else None)
        → file_at (reported files (word ∷ words)) q ≡ (if b || list_any (bytes_eq q) words then Some (lines_for q files) else None)
    by true e later =
        let is : word ≡ q = sym ((bytes_decides q word).0 e) in
        find-same q (word, lines_for word files) (reported files words) is ∙ ap (λ w. Some (lines_for w files)) is
    by false e later =
        let other : word ≢ q = λ is. true≢false (sym ((bytes_decides q word).1 (sym is)) ∙ e) in
        find-other q (word, lines_for word files) (reported files words) other ∙ later

in_all : (q : List ℕ) (files : Tree) → list_any (bytes_eq q) (all_words files) ≡ is_in q files
in_all q [] = refl
in_all q (file ∷ files) = list_any-append (bytes_eq q) (words_of file.1) (all_words files) ∙ ap (λ b. holds_word q file.1 || b) (in_all q files)

in_order-sorted : (files : Tree) → IsTrue (is_sorted byte_order (in_order files))
in_order-sorted [] = refl
in_order-sorted (file ∷ files) = ordered-put (in_order files) file.0 file.1 (in_order-sorted files)

pub index-sorted : (files : Tree) → IsTrue (is_sorted byte_order (index_of files))
index-sorted files = in_order-sorted (reported files (all_words files))

pub index-entry : (files : Tree) (q : List ℕ) → file_at (index_of files) q ≡ entry_of q files
index-entry files q =
    in_order-find (reported files (all_words files)) q
    ∙ reported_at q files (all_words files)
    ∙ ap (λ b. if b then Some (lines_for q files) else None) (in_all q files)

true_T : (b : Bool) → IsTrue b → T b
true_T b e = subst T (sym e) tt

-- files in order that have these entries are the index
pub is_index : (made files : Tree) → IsTrue (is_sorted byte_order made) → ((q : List ℕ) → file_at made q ≡ entry_of q files) → made ≡ index_of files
is_index made files h entries =
    same_entries byte_order nat_list_cmp_total tied_same made (index_of files) (true_T _ h) (true_T _ (index-sorted files)) (λ q. entries q ∙ sym (index-entry files q))

-- ---- One more file of those that are read

pub one_more : (index next : Tree) (files : Tree) (i : ℕ) (file : List ℕ × List ℕ) (words : List ℕ → Bool) → i < length files → file ≡ get_or files i file
    → ((q : List ℕ) → words q ≡ holds_word q file.1) → ((q : List ℕ) → file_at index q ≡ entry_of q (take i files))
    → ((q : List ℕ) → file_at next q ≡ with_path file.0 (words q) (file_at index q)) → (q : List ℕ) → file_at next q ≡ entry_of q (take (i + 1) files)
one_more index next files i file words within is held so_far added q =
    added q
    ∙ ap (λ b. with_path file.0 b (file_at index q)) (held q)
    ∙ ap (with_path file.0 (holds_word q file.1)) (so_far q)
    ∙ sym (lines_where_more (λ (f : List ℕ × List ℕ). holds_word q f.1) (take i files) file)
    ∙ ap (λ f. entry_of q (take i files ++ f ∷ [])) is
    ∙ ap (entry_of q) (sym (take_more files i file within))
