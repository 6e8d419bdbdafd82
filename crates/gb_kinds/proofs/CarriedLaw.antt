-- If the old index is that of old files, and the changes are the difference from those, the result is the
-- index of the current files.
use Rattle.std.proofs.Common.{arith, ◌≡◌, ◌≢◌, ℕ, ◌-◌, Bool, true, false, true≢false, ◌&&◌, ◌||◌, not, T, if◌then◌else◌, List, [], ◌∷◌, length, map, take, Ok, Option, Some, None, unwrap_or, refl, sym, ap, subst, ◌∙◌, inl, inr, bytes_eq, IsTrue, length-append}
use Rattle.std.proofs.Math.Seq.{take-append_seam}
use Rattle.std.proofs.lemmas.List.Folds.{list_any-append}
use Rattle.std.specs.BTreeSet.{BTreeSet, contains}
use Rattle.std.specs.Cmp.Lexicographic.{bytes_decides, nat_list_cmp_total}
use Rattle.std.specs.FinMap.Entries.{is_sorted, same_entries}
use Rattle.std.specs.List.{filter, list_all, list_any}
use Rattle.std.specs.Option.{option_map}
use Rattle.bstr.specs.Text.{lines_of}
use Rattle.gb_core.specs.Place.{is_rel_path}
use Rattle.gb_action.specs.Changes.{change_at, changes_between}
use Rattle.gb_core.specs.Lists.{byte_order}
use Rattle.gb_action.specs.Files.{Tree, Trees, file_at, tree_at}
use Rattle.gb_action.specs.Meanings.{Making}
use Rattle.gb_action.specs.Outputs.{written_at}
use Rattle.gb_action.specs.Replies.{FollowsOn}
use Rattle.gb_action.specs.Shapes.{source, target}
use Rattle.gb_action.specs.declared.request.Request.{Request}
use Rattle.gb_action.specs.declared.change.Change.{Change}
use Rattle.gb_action.specs.declared.change.Change.TheVariants.{Modified}
use Rattle.gb_core.proofs.Found.{tied_same, find-same, find-other}
use Rattle.gb_core.proofs.Booleans.{left_false, right_false}
use Rattle.gb_kinds.specs.Carried.{file_of_lines, holds_in, is_carried, is_looked_at, is_of_change, path_of, reported_at, IsCarried}
use Rattle.gb_kinds.specs.ByFile.{source_changes}
use Rattle.gb_kinds.specs.Remade.{as_made, existing}
use Rattle.gb_kinds.specs.Words.{holds_word, index_of, path_line}
use Rattle.gb_kinds.proofs.CarriedFound.{same_any}
use Rattle.gb_kinds.proofs.CarriedLines.{are_lines, at_path as one_at_path, first_is, is_one_line, lines_cut, on, path_is_line, second_is, shows}
use Rattle.gb_kinds.proofs.Carrying.{either, has_line, same_line}
use Rattle.gb_kinds.proofs.ByFileAnswers.{same_ok, source_reported, tree_ordered}
use Rattle.gb_kinds.proofs.FileLaw.{and_false, and_true, differs, itself, or_false, or_itself}
use Rattle.gb_kinds.proofs.Filtered.{filter_sorted, kept, kept_at, kept_none, lines_are, lines_rise, same_lines}
use Rattle.gb_kinds.proofs.LinesWhere.{reported_so_far}
use Rattle.gb_kinds.proofs.Paths.{at_path}
use Rattle.gb_kinds.proofs.RemadeAnswers.{IsRightAt}
use Rattle.gb_kinds.proofs.RemadeLaw.{existed_at}
use Rattle.gb_kinds.proofs.WordFiles.{both, entry_of, index-entry, index-sorted}
use Rattle.gb_kinds.proofs.Writing.{written_at-by_file}

-- the path has a change
abbrev is_changed : List Change → List ℕ → Bool
is_changed changes path = list_any (λ (c : Change). bytes_eq (path_of c) path) changes

-- ---- Paths that were visited

module _ (q : List ℕ) where
  path_found : (files : Tree) → list_all (λ (f : List ℕ × List ℕ). is_rel_path f.0) files ≡ true → (bytes : List ℕ) → file_at files q ≡ Some bytes → is_rel_path q ≡ true
  path_found [] h bytes is = absurd cc
  path_found (file ∷ files) h bytes is = by (bytes_eq file.0 q) refl (path_found files (second_is (is_rel_path file.0) _ h) bytes)
    where
      by : (b : Bool) → bytes_eq file.0 q ≡ b → (file_at files q ≡ Some bytes → is_rel_path q ≡ true) → is_rel_path q ≡ true
      by true e later = subst (λ p. is_rel_path p ≡ true) ((bytes_decides file.0 q).0 e) (first_is (is_rel_path file.0) _ h)
      by false e later =
          let other : file.0 ≢ q = λ same. true≢false (sym ((bytes_decides file.0 q).1 same) ∙ e) in
          later (sym (find-other q file files other) ∙ is)

  path_changed : (changes : List Change) → list_all (λ (c : Change). is_rel_path (path_of c)) changes ≡ true → is_changed changes q ≡ true → is_rel_path q ≡ true
  path_changed [] h is = absurd (true≢false (sym is))
  path_changed (change ∷ changes) h is = by (bytes_eq (path_of change) q) refl is (path_changed changes (second_is (is_rel_path (path_of change)) _ h))
    where
      by : (b : Bool) → bytes_eq (path_of change) q ≡ b → (b || is_changed changes q) ≡ true → (is_changed changes q ≡ true → is_rel_path q ≡ true) → is_rel_path q ≡ true
      by true e some later = subst (λ p. is_rel_path p ≡ true) ((bytes_decides (path_of change) q).0 e) (first_is (is_rel_path (path_of change)) _ h)
      by false e some later = later some

all_lines : (files : Tree) → ((q bytes : List ℕ) → file_at files q ≡ Some bytes → is_one_line q ≡ true) → are_lines files ≡ true
all_lines [] h = refl
all_lines (file ∷ files) h = both _ _ (h file.0 file.1 (find-same file.0 file files refl)) (all_lines files later)
  where
    later : (q bytes : List ℕ) → file_at files q ≡ Some bytes → is_one_line q ≡ true
    later q bytes is = by (bytes_eq file.0 q) refl
      where
        by : (b : Bool) → bytes_eq file.0 q ≡ b → is_one_line q ≡ true
        by true e = h q file.1 (find-same q file files ((bytes_decides file.0 q).0 e))
        by false e = h q bytes (find-other q file files (λ same. true≢false (sym ((bytes_decides file.0 q).1 same) ∙ e)) ∙ is)

all_names : (files : Tree) → list_all (λ (f : List ℕ × List ℕ). is_rel_path f.0) files ≡ true → are_lines files ≡ true
all_names [] h = refl
all_names (file ∷ files) h = both _ _ (path_is_line file.0 (first_is (is_rel_path file.0) _ h)) (all_names files (second_is (is_rel_path file.0) _ h))

-- ---- The changes of a path

module _ (was now : Tree) (path : List ℕ) where
  elsewhere : (other : List ℕ) → other ≢ path → is_changed (change_at other (file_at was other) (file_at now other)) path ≡ false
  elsewhere other separate = by (file_at was other) (file_at now other)
    where
      none : (bytes_eq other path || false) ≡ false
      none = or_false _ ∙ differs other path separate

      by : (o n : Option (List ℕ)) → is_changed (change_at other o n) path ≡ false
      by None None = refl
      by None (Some y) = none
      by (Some x) None = none
      by (Some x) (Some y) = same (bytes_eq x y)
        where
          same : (b : Bool) → is_changed (if b then [] else Modified other ∷ []) path ≡ false
          same true = refl
          same false = none

  changed_here : is_changed (changes_between was now) path ≡ is_changed (change_at path (file_at was path) (file_at now path)) path
  changed_here =
      at_path false (λ x y. y || x) or_false (λ v. refl) or_itself (λ changes. is_changed changes path) refl
      (list_any-append (λ (c : Change). bytes_eq (path_of c) path)) was now path elsewhere

  here : (bytes_eq path path || false) ≡ true
  here = or_false _ ∙ itself path

  -- a path without a change is as it was
  stays : is_changed (changes_between was now) path ≡ false → file_at was path ≡ file_at now path
  stays none = by (file_at was path) (file_at now path) (sym changed_here ∙ none)
    where
      by : (o n : Option (List ℕ)) → is_changed (change_at path o n) path ≡ false → o ≡ n
      by None None e = refl
      by None (Some y) e = absurd (true≢false (sym here ∙ e))
      by (Some x) None e = absurd (true≢false (sym here ∙ e))
      by (Some x) (Some y) e = same (bytes_eq x y) refl e
        where
          same : (b : Bool) → bytes_eq x y ≡ b → is_changed (if b then [] else Modified path ∷ []) path ≡ false → ◌≡◌ {A = Option (List ℕ)} (Some x) (Some y)
          same true equal e = ap Some ((bytes_decides x y).0 equal)
          same false equal e = absurd (true≢false (sym here ∙ e))

  -- a path whose file is gone has a change
  gone : (bytes : List ℕ) → file_at was path ≡ Some bytes → file_at now path ≡ None → is_changed (changes_between was now) path ≡ true
  gone bytes old new = changed_here ∙ ap (λ o. is_changed (change_at path o (file_at now path)) path) old ∙ ap (λ o. is_changed (change_at path (Some bytes) o) path) new ∙ here

-- ---- The line of a path among the changes

module _ (p : List ℕ) where
  line_of_change : (changes : List Change) → is_of_change changes (path_line p) ≡ is_changed changes p
  line_of_change [] = refl
  line_of_change (change ∷ changes) = ap (λ b. b || is_of_change changes (path_line p)) (same_line (path_of change) p) ∙ ap (λ b. bytes_eq (path_of change) p || b) (line_of_change changes)

  of_path : (test : List ℕ → Bool) (changes : List Change) → list_any (λ (c : Change). bytes_eq (path_line (path_of c)) (path_line p) && test (path_of c)) changes ≡ (is_changed changes p && test p)
  of_path test [] = refl
  of_path test (change ∷ changes) =
      ap (λ b. (b && test (path_of change)) || list_any (λ (c : Change). bytes_eq (path_line (path_of c)) (path_line p) && test (path_of c)) changes) (same_line (path_of change) p)
      ∙ ap (λ b. (bytes_eq (path_of change) p && test (path_of change)) || b) (of_path test changes)
      ∙ by (bytes_eq (path_of change) p) refl
    where
      more : (a b : Bool) → (a || (b && a)) ≡ a
      more true b = refl
      more false true = refl
      more false false = refl

      by : (b : Bool) → bytes_eq (path_of change) p ≡ b → ((b && test (path_of change)) || (is_changed changes p && test p)) ≡ ((b || is_changed changes p) && test p)
      by true e = ap (λ q. test q || (is_changed changes p && test p)) ((bytes_decides (path_of change) p).0 e) ∙ more (test p) (is_changed changes p)
      by false e = refl

  -- if no change satisfies the test, a changed path does not satisfy it
  of_none : (test : List ℕ → Bool) (changes : List Change) → is_changed changes p ≡ true → list_any (λ (c : Change). test (path_of c)) changes ≡ false → test p ≡ false
  of_none test [] is none = absurd (true≢false (sym is))
  of_none test (change ∷ changes) is none = by (bytes_eq (path_of change) p) refl is (of_none test changes)
    where
      by : (b : Bool) → bytes_eq (path_of change) p ≡ b → (b || is_changed changes p) ≡ true
          → (is_changed changes p ≡ true → list_any (λ (c : Change). test (path_of c)) changes ≡ false → test p ≡ false) → test p ≡ false
      by true e some later = ap test (sym ((bytes_decides (path_of change) p).0 e)) ∙ left_false _ _ none
      by false e some later = later some (right_false (test (path_of change)) _ none)

-- one of the lines passes
one_passes : (line : List ℕ) (test : List ℕ → Bool) (lines : List (List ℕ)) → list_any (bytes_eq line) lines ≡ true → test line ≡ true → list_any test lines ≡ true
one_passes line test [] there passes = absurd (true≢false (sym there))
one_passes line test (other ∷ lines) there passes = by (bytes_eq line other) refl there (one_passes line test lines)
  where
    by : (b : Bool) → bytes_eq line other ≡ b → (b || list_any (bytes_eq line) lines) ≡ true → (list_any (bytes_eq line) lines ≡ true → test line ≡ true → list_any test lines ≡ true) → (test other || list_any test lines) ≡ true
    by true e some later = ap (λ b. b || list_any test lines) (ap test (sym ((bytes_decides line other).0 e)) ∙ passes)
    by false e some later = ap (λ b. test other || b) (later some passes) ∙ either (test other)

-- ---- Lines of no path

-- the line of a path is determined by its bytes except the last
abbrev prefix : List ℕ → List ℕ
prefix line = take (length line - 1) line

prefix_of : (path : List ℕ) → prefix (path_line path) ≡ path
prefix_of path =
    let shorter : length (path_line path) - 1 ≡ length path = omega (arith, length-append path (10 ∷ [])) in
    ap (λ n. take n (path_line path)) shorter ∙ take-append_seam path (10 ∷ [])

module _ (line : List ℕ) (no_path : bytes_eq (path_line (prefix line)) line ≡ false) where
  reports_none : (path : List ℕ) → bytes_eq (path_line path) line ≡ false
  reports_none path = by (bytes_eq (path_line path) line) refl
    where
      by : (b : Bool) → bytes_eq (path_line path) line ≡ b → b ≡ false
      by true e =
          let is : path_line path ≡ line = (bytes_decides (path_line path) line).0 e in
          sym ((bytes_decides (path_line (prefix line)) line).1 (ap (λ l. path_line (prefix l)) (sym is) ∙ ap path_line (prefix_of path) ∙ is)) ∙ no_path
      by false e = refl

  none_of : {X : Type 0} (name : X → List ℕ) (test : X → Bool) (xs : List X) → list_any (λ x. bytes_eq (path_line (name x)) line && test x) xs ≡ false
  none_of name test [] = refl
  none_of name test (x ∷ xs) = ap (λ b. (b && test x) || list_any (λ y. bytes_eq (path_line (name y)) line && test y) xs) (reports_none (name x)) ∙ none_of name test xs

-- ---- The index

module _ (existing index was now : Tree) (changes : List Change) (looked_at : List ℕ → Bool) (reported : changes ≡ changes_between was now)
    (before : IsTrue (is_sorted byte_order was)) (existed : (word : List ℕ) → file_at existing word ≡ entry_of word was) (is : IsCarried existing changes now looked_at index) where
  old_lines : are_lines was ≡ true
  old_lines = all_lines was (λ q bytes old. path_is_line q (path q bytes old (file_at now q) refl))
    where
      path : (q bytes : List ℕ) → file_at was q ≡ Some bytes → (o : Option (List ℕ)) → file_at now q ≡ o → is_rel_path q ≡ true
      path q bytes old (Some new) e = path_found q now is.paths new e
      path q bytes old None e = path_changed q changes is.changed_paths (ap (λ cs. is_changed cs q) reported ∙ gone was now q bytes old e)

  abbrev holds : List ℕ → List ℕ × List ℕ → Bool
  holds word file = holds_word word file.1

  reported_then : (word : List ℕ) → reported_at existing word ≡ map (λ (f : List ℕ × List ℕ). path_line f.0) (filter (holds word) was)
  reported_then word = ap (λ o. lines_of (unwrap_or o [])) (existed word) ∙ ap lines_of (reported_so_far (holds word) was) ∙ lines_cut (holds word) was old_lines

  -- whether a tree has the line of a path for a word
  at_line : (word p : List ℕ) (files : Tree) → IsTrue (is_sorted byte_order files) → list_any (λ (f : List ℕ × List ℕ). bytes_eq (path_line f.0) (path_line p) && holds word f) files ≡ holds_in (file_at files p) word
  at_line word p files sorted =
      same_any (λ (f : List ℕ × List ℕ). bytes_eq (path_line f.0) (path_line p) && holds word f) (λ (f : List ℕ × List ℕ). bytes_eq f.0 p && holds word f) (λ f. ap (λ b. b && holds word f) (same_line f.0 p)) files
      ∙ one_at_path p (holds_word word) files (subst T (sym sorted) tt)
      ∙ by (file_at files p)
    where
      by : (o : Option (List ℕ)) → on (holds_word word) o ≡ holds_in o word
      by None = refl
      by (Some bytes) = refl

  unchanged : (p : List ℕ) → is_changed changes p ≡ false → file_at was p ≡ file_at now p
  unchanged p e = stays was now p (ap (λ cs. is_changed cs p) (sym reported) ∙ e)

  -- a line is carried exactly if a current file has it
  members : (word line : List ℕ) → is_carried existing changes now word line ≡ list_any (bytes_eq line) (map (λ (f : List ℕ × List ℕ). path_line f.0) (filter (holds word) now))
  members word line =
      ap (λ b. (b && not (is_of_change changes line)) || news line) (ap (list_any (bytes_eq line)) (reported_then word) ∙ shows (holds word) line was)
      ∙ by (bytes_eq (path_line (prefix line)) line) refl
      ∙ sym (shows (holds word) line now)
    where
      news : List ℕ → Bool
      news l = list_any (λ (c : Change). bytes_eq (path_line (path_of c)) l && holds_in (file_at now (path_of c)) word) changes

      tree_shows : Tree → List ℕ → Bool
      tree_shows files l = list_any (λ (f : List ℕ × List ℕ). bytes_eq (path_line f.0) l && holds word f) files

      of_line : (p : List ℕ) → ((tree_shows was (path_line p) && not (is_of_change changes (path_line p))) || news (path_line p)) ≡ tree_shows now (path_line p)
      of_line p =
          ap (λ b. (b && not (is_of_change changes (path_line p))) || news (path_line p)) (at_line word p was before)
          ∙ ap (λ b. (holds_in (file_at was p) word && not b) || news (path_line p)) (line_of_change p changes)
          ∙ ap (λ b. (holds_in (file_at was p) word && not (is_changed changes p)) || b) (of_path p (λ q. holds_in (file_at now q) word) changes)
          ∙ either_way (is_changed changes p) refl
          ∙ sym (at_line word p now is.in_order)
        where
          either_way : (b : Bool) → is_changed changes p ≡ b → ((holds_in (file_at was p) word && not b) || (b && holds_in (file_at now p) word)) ≡ holds_in (file_at now p) word
          either_way true e = ap (λ b. b || holds_in (file_at now p) word) (and_false _ false refl)
          either_way false e = or_false _ ∙ and_true _ true refl ∙ ap (λ o. holds_in o word) (unchanged p e)

      by : (b : Bool) → bytes_eq (path_line (prefix line)) line ≡ b → ((tree_shows was line && not (is_of_change changes line)) || news line) ≡ tree_shows now line
      by true e = subst (λ l. ((tree_shows was l && not (is_of_change changes l)) || news l) ≡ tree_shows now l) ((bytes_decides (path_line (prefix line)) line).0 e) (of_line (prefix line))
      by false e =
          ap (λ b. (b && not (is_of_change changes line)) || news line) (none_of line e (λ (f : List ℕ × List ℕ). f.0) (holds word) was)
          ∙ none_of line e path_of (λ (c : Change). holds_in (file_at now (path_of c)) word) changes
          ∙ sym (none_of line e (λ (f : List ℕ × List ℕ). f.0) (holds word) now)

  -- a word that is examined has its file
  pub looked_entry : (word : List ℕ) → is_looked_at existing changes now word ≡ true → file_at index word ≡ entry_of word now
  looked_entry word at =
      let entry = is.entries word at in
      entry.joined
      ∙ ap file_of_lines (same_lines entry.lines (map (λ (f : List ℕ × List ℕ). path_line f.0) (filter (holds word) now)) entry.in_order (lines_rise (holds word) now is.paths (subst T (sym is.in_order) tt)) (λ line. entry.exactly line ∙ members word line))
      ∙ sym (lines_are (holds word) now)

  -- at any other word the existing file is right
  module _ (word : List ℕ) (at : is_looked_at existing changes now word ≡ false) where
    held_before : (p : List ℕ) → is_changed changes p ≡ true → holds_in (file_at was p) word ≡ false
    held_before p changed = by (holds_in (file_at was p) word) refl
      where
        by : (b : Bool) → holds_in (file_at was p) word ≡ b → b ≡ false
        by true e =
            sym (one_passes (path_line p) (is_of_change changes) (reported_at existing word)
            (ap (list_any (bytes_eq (path_line p))) (reported_then word) ∙ shows (holds word) (path_line p) was ∙ at_line word p was before ∙ e)
            (line_of_change p changes ∙ changed))
            ∙ right_false (list_any (λ (c : Change). holds_in (file_at now (path_of c)) word) changes) _ at
        by false e = refl

    held_now : (p : List ℕ) → is_changed changes p ≡ true → holds_in (file_at now p) word ≡ false
    held_now p changed = of_none p (λ q. holds_in (file_at now q) word) changes changed (left_false _ _ at)

    same_files : filter (holds word) was ≡ filter (holds word) now
    same_files =
        same_entries byte_order nat_list_cmp_total tied_same (filter (holds word) was) (filter (holds word) now)
        (filter_sorted (holds word) was (subst T (sym before) tt)) (filter_sorted (holds word) now (subst T (sym is.in_order) tt))
        (λ p. kept_at word p was (subst T (sym before) tt) ∙ by p (is_changed changes p) refl ∙ sym (kept_at word p now (subst T (sym is.in_order) tt)))
      where
        by : (p : List ℕ) (b : Bool) → is_changed changes p ≡ b → kept word (file_at was p) ≡ kept word (file_at now p)
        by p true e = kept_none word (file_at was p) (held_before p e) ∙ sym (kept_none word (file_at now p) (held_now p e))
        by p false e = ap (kept word) (unchanged p e)

    pub other_entry : file_at existing word ≡ entry_of word now
    other_entry =
        existed word
        ∙ lines_are (holds word) was
        ∙ ap (λ (files : Tree). file_of_lines (map (λ (f : List ℕ × List ℕ). path_line f.0) files)) same_files
        ∙ sym (lines_are (holds word) now)

-- ---- A request that is based on a previous execution

abbrev index_makes : Making
index_makes arguments values trees = Ok (as_made (index_of (tree_at trees source)))

module _ (request : Request) (index : Tree) (looked_at : BTreeSet (List ℕ)) (is : IsCarried (existing request.outputs) (source_changes request.changes.lists) (tree_at request.files source) (contains byte_order looked_at) index) where
  pub follows-is_right : (old : Trees) → FollowsOn index_makes request old → (path : List ℕ) → IsRightAt request.outputs index looked_at.keys (index_of (tree_at request.files source)) path
  follows-is_right old follows path = by (is_looked_at (existing request.outputs) changes now path) refl
    where
      was : Tree
      was = tree_at old source

      now : Tree
      now = tree_at request.files source

      changes : List Change
      changes = source_changes request.changes.lists

      existed : (word : List ℕ) → file_at (existing request.outputs) word ≡ entry_of word was
      existed word =
          sym (existed_at request.outputs target word)
          ∙ follows.exists target word
          ∙ ap (λ files. written_at files target word) (sym (same_ok follows.was_made))
          ∙ written_at-by_file (λ bytes. bytes) target word (index_of was) (index-sorted was)
          ∙ same (file_at (index_of was) word)
          ∙ index-entry was word
        where
          same : (o : Option (List ℕ)) → option_map (λ bytes. bytes) o ≡ o
          same None = refl
          same (Some x) = refl

      reported : changes ≡ changes_between was now
      reported = source_reported old request follows.shows

      before : IsTrue (is_sorted byte_order was)
      before = tree_ordered old source follows.shows.ordered

      there : (b : Bool) → is_looked_at (existing request.outputs) changes now path ≡ b → list_any (bytes_eq path) looked_at.keys ≡ b
      there b e = has_line looked_at path ∙ is.looked path ∙ e

      by : (b : Bool) → is_looked_at (existing request.outputs) changes now path ≡ b → IsRightAt request.outputs index looked_at.keys (index_of now) path
      by true e = inl (there true e, looked_entry (existing request.outputs) index was now changes (contains byte_order looked_at) reported before existed is path e ∙ sym (index-entry now path))
      by false e = inr (there false e, is.others path e, other_entry (existing request.outputs) index was now changes (contains byte_order looked_at) reported before existed is path e ∙ sym (index-entry now path))
