-- The lines of chosen files, in order.
use Rattle.std.proofs.Common.{arith, ◌≡◌, ◌≢◌, ℕ, Bool, true, false, true≢false, ◌&&◌, ◌||◌, T, if◌then◌else◌, List, [], ◌∷◌, ◌++◌, length, map, nat_le, Option, Some, None, refl, sym, ap, subst, ◌∙◌, bytes_eq}
use Rattle.std.proofs.lemmas.Bool.{leb-true}
use Rattle.std.proofs.lemmas.Map.Lookups.{btree_set_from_contains}
use Rattle.std.specs.BTreeSet.{BTreeSet}
use Rattle.std.specs.Cmp.{nat_cmp_is}
use Rattle.std.specs.Cmp.Lexicographic.{bytes_decides, nat_list_cmp_total}
use Rattle.std.specs.FinMap.Entries.{below_all, is_sorted}
use Rattle.std.specs.List.{AllByRecursion, concat, filter, flat_map, list_all, list_any}
use Rattle.std.specs.List.Sorted.{IsStrictlySortedBy}
use Rattle.std.specs.Ordering.{is_lt, nat_cmp, ordering_then}
use Rattle.std.specs.declared.cmp.Ordering.{Ordering}
use Rattle.std.specs.declared.cmp.Ordering.TheVariants.{Less, Equal, Greater}
use Rattle.gb_core.specs.Place.{is_printable, is_rel_path}
use Rattle.gb_core.specs.Lists.{byte_order}
use Rattle.gb_action.specs.Files.{Tree, file_at}
use Rattle.gb_core.proofs.Found.{tied_same, find-same, find-other}
use Rattle.gb_kinds.specs.Carried.{file_of_lines, holds_in, lines_where}
use Rattle.gb_kinds.specs.Words.{holds_word, path_line}
use Rattle.gb_kinds.proofs.Carrying.{has_line}
use Rattle.gb_kinds.proofs.CarriedLines.{first_is, second_is}
use Rattle.gb_kinds.proofs.Writing.{below, first, second}

-- ---- Lists in order with the same lines are the same

pub same_lines : (left right : List (List ℕ)) → IsStrictlySortedBy byte_order left → IsStrictlySortedBy byte_order right → ((line : List ℕ) → list_any (bytes_eq line) left ≡ list_any (bytes_eq line) right) → left ≡ right
same_lines left right l r same =
    let one : BTreeSet (List ℕ) = record { keys = left } in
    let two : BTreeSet (List ℕ) = record { keys = right } in
    btree_set_from_contains nat_list_cmp_total one two l r (λ line. sym (has_line one line) ∙ same line ∙ has_line two line) tied_same

-- ---- The lines of paths ascend as the paths do

abbrev not_less : Ordering → Bool
not_less Less = false
not_less Equal = true
not_less Greater = true

below_ten : (byte : ℕ) → is_printable byte ≡ true → nat_cmp 10 byte ≡ Less
below_ten byte h =
    let low = leb-true 32 byte (first_is (nat_le 32 byte) _ h) in
    sym (nat_cmp_is 10 byte Less (omega (arith, low)))

rises : (path other : List ℕ) → list_all is_printable other ≡ true → byte_order path other ≡ Less → byte_order (path_line path) (path_line other) ≡ Less
rises [] [] h e = absurd (true≢false (ap not_less e))
rises [] (byte ∷ other) h e = ap (λ o. ordering_then o (byte_order [] (path_line other))) (below_ten byte (first_is (is_printable byte) _ h))
rises (x ∷ path) [] h e = absurd (true≢false (ap not_less e))
rises (x ∷ path) (y ∷ other) h e = by (nat_cmp x y) refl e (rises path other (second_is (is_printable y) _ h))
  where
    by : (o : Ordering) → nat_cmp x y ≡ o → ordering_then o (byte_order path other) ≡ Less → (byte_order path other ≡ Less → byte_order (path_line path) (path_line other) ≡ Less)
        → ordering_then o (byte_order (path_line path) (path_line other)) ≡ Less
    by Less n less later = refl
    by Equal n less later = later less
    by Greater n less later = absurd (true≢false (ap not_less less))

is_less : (o : Ordering) → T (is_lt o) → o ≡ Less
is_less Less p = refl
is_less Equal p = absurd p
is_less Greater p = absurd p

printable : (path : List ℕ) → is_rel_path path ≡ true → list_all is_printable path ≡ true
printable [] h = refl
printable (byte ∷ path) h = second_is (nat_le (length (byte ∷ path)) 1024) _ (first_is (nat_le (length (byte ∷ path)) 1024 && list_all is_printable (byte ∷ path)) _ h)

module _ (chosen : List ℕ × List ℕ → Bool) where
  below_filter : (path : List ℕ) (files : Tree) → T (below_all byte_order path files) → T (below_all byte_order path (filter chosen files))
  below_filter path [] h = tt
  below_filter path (file ∷ files) h = by (chosen file) (first (is_lt (byte_order path file.0)) _ h) (below_filter path files (second (is_lt (byte_order path file.0)) _ h))
    where
      both : (a b : Bool) → T a → T b → T (a && b)
      both true b p q = q
      both false b p q = absurd p

      by : (b : Bool) → T (is_lt (byte_order path file.0)) → T (below_all byte_order path (filter chosen files)) → T (below_all byte_order path (if b then file ∷ filter chosen files else filter chosen files))
      by true here later = both _ _ here later
      by false here later = later

  pub filter_sorted : (files : Tree) → T (is_sorted byte_order files) → T (is_sorted byte_order (filter chosen files))
  filter_sorted [] h = tt
  filter_sorted (file ∷ files) h = by (chosen file) (below_filter file.0 files (first (below_all byte_order file.0 files) _ h)) (filter_sorted files (second (below_all byte_order file.0 files) _ h))
    where
      both : (a b : Bool) → T a → T b → T (a && b)
      both true b p q = q
      both false b p q = absurd p

      by : (b : Bool) → T (below_all byte_order file.0 (filter chosen files)) → T (is_sorted byte_order (filter chosen files)) → T (is_sorted byte_order (if b then file ∷ filter chosen files else filter chosen files))
      by true here later = both _ _ here later
      by false here later = later

  lines_below : (path : List ℕ) (files : Tree) → list_all (λ (f : List ℕ × List ℕ). is_rel_path f.0) files ≡ true → T (below_all byte_order path files)
      → AllByRecursion (λ (line : List ℕ). byte_order (path_line path) line ≡ Less) (map (λ (f : List ℕ × List ℕ). path_line f.0) (filter chosen files))
  lines_below path [] names h = tt
  lines_below path (file ∷ files) names h =
      by (chosen file)
      (rises path file.0 (printable file.0 (first_is (is_rel_path file.0) _ names)) (is_less (byte_order path file.0) (first (is_lt (byte_order path file.0)) _ h)))
      (lines_below path files (second_is (is_rel_path file.0) _ names) (second (is_lt (byte_order path file.0)) _ h))
    where
      by : (b : Bool) → byte_order (path_line path) (path_line file.0) ≡ Less
          → AllByRecursion (λ (line : List ℕ). byte_order (path_line path) line ≡ Less) (map (λ (f : List ℕ × List ℕ). path_line f.0) (filter chosen files))
          → AllByRecursion (λ (line : List ℕ). byte_order (path_line path) line ≡ Less) (map (λ (f : List ℕ × List ℕ). path_line f.0) (if b then file ∷ filter chosen files else filter chosen files))
      by true here later = (here, later)
      by false here later = later

  pub lines_rise : (files : Tree) → list_all (λ (f : List ℕ × List ℕ). is_rel_path f.0) files ≡ true → T (is_sorted byte_order files)
      → IsStrictlySortedBy byte_order (map (λ (f : List ℕ × List ℕ). path_line f.0) (filter chosen files))
  unfolding IsStrictlySortedBy
  lines_rise [] names h = tt
  lines_rise (file ∷ files) names h =
      by (chosen file)
      (lines_below file.0 files (second_is (is_rel_path file.0) _ names) (first (below_all byte_order file.0 files) _ h))
      (lines_rise files (second_is (is_rel_path file.0) _ names) (second (below_all byte_order file.0 files) _ h))
    where
      by : (b : Bool) → AllByRecursion (λ (line : List ℕ). byte_order (path_line file.0) line ≡ Less) (map (λ (f : List ℕ × List ℕ). path_line f.0) (filter chosen files))
          → IsStrictlySortedBy byte_order (map (λ (f : List ℕ × List ℕ). path_line f.0) (filter chosen files))
          → IsStrictlySortedBy byte_order (map (λ (f : List ℕ × List ℕ). path_line f.0) (if b then file ∷ filter chosen files else filter chosen files))
      by true here later = (here, later)
      by false here later = later

  -- ---- The file of the lines

  joined_lines : (files : Tree) → flat_map (λ (f : List ℕ × List ℕ). path_line f.0) files ≡ concat (map (λ (f : List ℕ × List ℕ). path_line f.0) files)
  joined_lines [] = refl
  joined_lines (file ∷ files) = ap (λ lines. path_line file.0 ++ lines) (joined_lines files)

  pub lines_are : (files : Tree) → lines_where chosen files ≡ file_of_lines (map (λ (f : List ℕ × List ℕ). path_line f.0) (filter chosen files))
  lines_are [] = refl
  lines_are (file ∷ files) = by (chosen file) (lines_are files)
    where
      by : (b : Bool) → lines_where chosen files ≡ file_of_lines (map (λ (f : List ℕ × List ℕ). path_line f.0) (filter chosen files))
          → (if b || list_any chosen files then Some (flat_map (λ (f : List ℕ × List ℕ). path_line f.0) (if b then file ∷ filter chosen files else filter chosen files)) else None)
          ≡ file_of_lines (map (λ (f : List ℕ × List ℕ). path_line f.0) (if b then file ∷ filter chosen files else filter chosen files))
      by true later = ap Some (joined_lines (file ∷ filter chosen files))
      by false later = later

-- ---- The files that contain a word

abbrev pub kept : List ℕ → Option (List ℕ) → Option (List ℕ)
kept word None = None
kept word (Some bytes) = if holds_word word bytes then Some bytes else None

pub kept_none : (word : List ℕ) (o : Option (List ℕ)) → holds_in o word ≡ false → kept word o ≡ None
kept_none word None e = refl
kept_none word (Some bytes) e = ap (λ b. if b then Some bytes else None) e

module _ (word path : List ℕ) where
  pub kept_at : (files : Tree) → T (is_sorted byte_order files) → file_at (filter (λ (f : List ℕ × List ℕ). holds_word word f.1) files) path ≡ kept word (file_at files path)
  kept_at [] h = refl
  kept_at (file ∷ files) h = by (bytes_eq file.0 path) refl (holds_word word file.1) refl (kept_at files (second (below_all byte_order file.0 files) _ h))
    where
      held : Tree
      held = filter (λ (f : List ℕ × List ℕ). holds_word word f.1) files

      by : (b : Bool) → bytes_eq file.0 path ≡ b → (holds : Bool) → holds_word word file.1 ≡ holds → file_at held path ≡ kept word (file_at files path)
          → file_at (if holds then file ∷ held else held) path ≡ kept word (file_at (file ∷ files) path)
      by true e true k later =
          let is : file.0 ≡ path = (bytes_decides file.0 path).0 e in
          find-same path file held is ∙ ap (λ b. if b then Some file.1 else None) (sym k) ∙ ap (kept word) (sym (find-same path file files is))
      by true e false k later =
          let is : file.0 ≡ path = (bytes_decides file.0 path).0 e in
          let absent : file_at files path ≡ None = subst (λ q. file_at files q ≡ None) is (below file.0 files (first (below_all byte_order file.0 files) _ h)) in
          later ∙ ap (kept word) absent ∙ ap (λ b. if b then Some file.1 else None) (sym k) ∙ ap (kept word) (sym (find-same path file files is))
      by false e true k later =
          let other : file.0 ≢ path = λ is. true≢false (sym ((bytes_decides file.0 path).1 is) ∙ e) in
          find-other path file held other ∙ later ∙ ap (kept word) (sym (find-other path file files other))
      by false e false k later =
          let other : file.0 ≢ path = λ is. true≢false (sym ((bytes_decides file.0 path).1 is) ∙ e) in
          later ∙ ap (kept word) (sym (find-other path file files other))
