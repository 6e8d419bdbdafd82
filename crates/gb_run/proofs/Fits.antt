-- Files that are at places, small, and below no other: none of them has a fault.
use Rattle.std.proofs.Common.{◌≡◌, ◌≤◌, ◌+◌, ◌||◌, ℕ, Bool, true, false, cond, is_some, not, List, [], ◌∷◌, ◌++◌, length, map, Option, None, Some, refl, sym, ap, ◌∙◌, arith, Bor, eqb, ◌<◌}
use Rattle.std.specs.Global.{Global}
use Rattle.std.specs.List.{AllByRecursion, flat_map, list_any}
use Rattle.std.specs.Map.{lookup}
use Rattle.std.specs.Option.{option_copied}
use Rattle.std.specs.Ordering.{nat_cmp}
use Rattle.std.specs.Prelude.{bytes_eq, nat_lt, string_bytes}
use Rattle.std.specs.Cmp.Lexicographic.{slice_cmp}
use Rattle.std.specs.FinMap.Entries.{by_order}
use Rattle.std.specs.Str.{NoCharPasses}
use Rattle.std.specs.declared.cmp.Ordering.TheVariants.{Less, Equal, Greater}
use Rattle.std.specs.declared.string.String.{String}
use Rattle.std.proofs.lemmas.Str.Pattern.{NoCharPasses-char}
use Rattle.gb_core.specs.Place.{is_beneath, is_place}
use Rattle.gb_folder.specs.Files.{Place, Bytes, Files, is_blocked, with_file}
use Rattle.gb_folder.specs.Limits.{max_file, max_files}
use Rattle.gb_folder.proofs.Above.{IsSplit}
use Rattle.gb_folder.proofs.Beneath.{above_split, none_above_segment}
use Rattle.gb_folder.proofs.Held.{any_or, at_place, same_place}
use Rattle.gb_folder.proofs.Sound.{any_put}
use Rattle.gb_report.specs.declared.fault.Fault.{Fault}
use Rattle.gb_report.specs.declared.fault.Fault.TheVariants as faults
use Rattle.gb_plan.specs.declared.task.Output.{Output}
use Rattle.gb_semantics.specs.Made.{fault_if, file_faults, put_over}
use Rattle.gb_run.specs.ChangeTexts.{ByText, Fits, steps_in}
use Rattle.gb_run.specs.Named.{files_left}
use Rattle.gb_run.specs.Placing.{blank, count_faults, faults_beside}
use Rattle.gb_run.proofs.Counted.{none_full}
use Rattle.gb_run.proofs.Placed.{beside_is}

-- ---- what is at an ancestor folder of a text

module _ {V : Type 0} where
  is_key : (place : List ℕ) (es : List (String Global × V)) → is_some (lookup (at_place place) es) ≡ list_any (λ (e : String Global × V). bytes_eq (string_bytes e.0) place) es
  is_key place [] = refl
  is_key place (e ∷ es) =
      chosen (at_place place e.0) e.1 (lookup (at_place place) es)
      ∙ ap (λ b. b || is_some (lookup (at_place place) es)) (sym (same_place (string_bytes e.0) place))
      ∙ ap (λ b. bytes_eq (string_bytes e.0) place || b) (is_key place es)
    where
      chosen : (b : Bool) (v : V) (o : Option V) → is_some (cond b (Some v) o) ≡ (b || is_some o)
      chosen true v o = refl
      chosen false v o = refl

  either : (a b : String Global × V → Bool) (es : List (String Global × V)) → list_any (λ e. a e || b e) es ≡ (list_any a es || list_any b es)
  either a b [] = refl
  either a b (e ∷ es) = ap (λ c. (a e || b e) || c) (either a b es) ∙ mixed (a e) (b e) (list_any a es) (list_any b es)
    where
      mixed : (x y c d : Bool) → ((x || y) || (c || d)) ≡ ((x || c) || (y || d))
      mixed true y c d = refl
      mixed false true true d = refl
      mixed false true false d = refl
      mixed false false c d = refl

  -- a key at an ancestor folder of a text is at the last of these folders, or at an ancestor of that one
  pub any_above : (es : List (String Global × V)) (text folder last : List ℕ) → IsSplit text folder last
      → list_any (λ (e : String Global × V). is_beneath text (string_bytes e.0)) es
      ≡ (is_some (lookup (at_place folder) es) || list_any (λ (e : String Global × V). is_beneath folder (string_bytes e.0)) es)
  any_above es text folder last split =
      by_keys es
      ∙ either (λ e. bytes_eq (string_bytes e.0) folder) (λ e. is_beneath folder (string_bytes e.0)) es
      ∙ ap (λ b. b || list_any (λ (e : String Global × V). is_beneath folder (string_bytes e.0)) es) (sym (is_key folder es))
    where
      by_keys : (es : List (String Global × V)) → list_any (λ (e : String Global × V). is_beneath text (string_bytes e.0)) es
          ≡ list_any (λ (e : String Global × V). bytes_eq (string_bytes e.0) folder || is_beneath folder (string_bytes e.0)) es
      by_keys [] = refl
      by_keys (e ∷ es) =
          ap (λ b. b || list_any (λ (e : String Global × V). is_beneath text (string_bytes e.0)) es) (above_split text folder last (string_bytes e.0) split.whole split.segment)
          ∙ ap (λ b. (bytes_eq (string_bytes e.0) folder || is_beneath folder (string_bytes e.0)) || b) (by_keys es)

  -- a text with no slash has no folders
  pub none_above : (text : List ℕ) (es : List (String Global × V)) → NoCharPasses (λ d. eqb d 47) text → list_any (λ (e : String Global × V). is_beneath text (string_bytes e.0)) es ≡ false
  none_above text [] clear = refl
  none_above text (e ∷ es) clear =
      let small : 47 < 128 = omega arith in
      ap (λ b. b || list_any (λ (e : String Global × V). is_beneath text (string_bytes e.0)) es) (none_above_segment text (string_bytes e.0) (λ k h. NoCharPasses-char 47 text k clear small h))
      ∙ none_above text es clear

-- ---- the files that are left

abbrev Entry : Type 0
Entry = String Global × Option (Bor Bytes)

abbrev left : List Entry → Files
left es = files_left (map (λ e. (string_bytes e.0, option_copied e.1)) es)

or_false : (a b : Bool) → (a || b) ≡ false → (a ≡ false) × (b ≡ false)
or_false false false e = (refl, refl)
or_false false true e = absurd (cc)
or_false true b e = absurd (cc)

-- a place of a file that is left is the one of a step
any_left : (test : Place → Bool) (es : List Entry) → list_any (λ (e : Entry). test (string_bytes e.0)) es ≡ false → list_any (λ (f : Place × Bytes). test f.0) (left es) ≡ false
any_left test [] none = refl
any_left test ((key, None) ∷ es) none = any_left test es (or_false (test (string_bytes key)) _ none).1
any_left test ((key, Some bytes) ∷ es) none =
    let parts = or_false (test (string_bytes key)) (list_any (λ (e : Entry). test (string_bytes e.0)) es) none in
    ap (λ b. b || list_any (λ (f : Place × Bytes). test f.0) (left es)) parts.0 ∙ any_left test es parts.1

fewer_left : (es : List Entry) → length (left es) ≤ length es
fewer_left [] = omega arith
fewer_left ((key, None) ∷ es) = let rest = fewer_left es in omega arith
fewer_left ((key, Some bytes) ∷ es) = let rest = fewer_left es in omega arith

-- ---- the places that they take

taken : (test : Place → Bool) (files held : Files) → list_any (λ (f : Place × Bytes). test f.0) (put_over held (blank files))
    ≡ (list_any (λ (f : Place × Bytes). test f.0) held || list_any (λ (f : Place × Bytes). test f.0) files)
taken test [] held = sym (or_nothing (list_any (λ (f : Place × Bytes). test f.0) held))
  where
    or_nothing : (b : Bool) → (b || false) ≡ b
    or_nothing true = refl
    or_nothing false = refl
taken test (file ∷ files) held =
    let any : Files → Bool = λ fs. list_any (λ (f : Place × Bytes). test f.0) fs in
    taken test files (with_file held file.0 []) ∙ ap (λ b. b || any files) (any_put test file.0 [] held) ∙ moved (test file.0) (any held) (any files)
  where
    moved : (a b c : Bool) → ((a || b) || c) ≡ (b || (a || c))
    moved true true c = refl
    moved true false c = refl
    moved false b c = refl

one_more : (place bytes : List ℕ) (files : Files) → length (with_file files place bytes) ≤ length files + 1
one_more place bytes [] = omega arith
one_more place bytes (file ∷ files) =
    let rest = one_more place bytes files in
    elim (slice_cmp nat_cmp place file.0) as (λ o. length (by_order o ((place, bytes) ∷ file ∷ files) ((file.0, bytes) ∷ files) (file ∷ with_file files place bytes)) ≤ length (file ∷ files) + 1)
    [ Less ↦ omega arith | Equal ↦ omega arith | Greater ↦ omega (arith, rest) ]

no_more : (files held : Files) → length (put_over held (blank files)) ≤ length held + length files
no_more [] held = omega arith
no_more (file ∷ files) held =
    let rest = no_more files (with_file held file.0 []) in
    let more = one_more file.0 [] held in
    omega (arith, rest, more)

-- ---- none is in the way of another

-- no file of the second list is at an ancestor folder of one of the first
abbrev NoneAbove : Files → Files → Type 0
NoneAbove xs ys = AllByRecursion (λ x. list_any (λ (y : Place × Bytes). is_beneath x.0 y.0) ys ≡ false) xs

first_column : (xs : Files) (y : Place × Bytes) (ys : Files) → NoneAbove xs (y ∷ ys) → (list_any (λ (x : Place × Bytes). is_beneath x.0 y.0) xs ≡ false) × NoneAbove xs ys
first_column [] y ys none = (refl, tt)
first_column (x ∷ xs) y ys none =
    let parts = or_false (is_beneath x.0 y.0) (list_any (λ (z : Place × Bytes). is_beneath x.0 z.0) ys) none.0 in
    let rest = first_column xs y ys none.1 in
    (ap (λ b. b || list_any (λ (z : Place × Bytes). is_beneath z.0 y.0) xs) parts.0 ∙ rest.0, (parts.1, rest.1))

-- so none of the first list is beneath one of the second
columns : (xs ys : Files) → NoneAbove xs ys → AllByRecursion (λ y. list_any (λ (x : Place × Bytes). is_beneath x.0 y.0) xs ≡ false) ys
columns xs [] none = tt
columns xs (y ∷ ys) none = let first = first_column xs y ys none in (first.0, columns xs ys first.1)

-- ---- none has a fault

not_large : (size : ℕ) → size ≤ max_file → nat_lt max_file size ≡ false
not_large size small = grind arith

module _ (es : List Entry) where
  abbrev all : Files
  all = put_over [] (blank (left es))

  free : (place : Place) → list_any (λ (e : Entry). is_beneath place (string_bytes e.0)) es ≡ false → list_any (λ (f : Place × Bytes). is_beneath f.0 place) (left es) ≡ false
      → is_blocked all place ≡ false
  free place above beneath =
      taken (λ p. is_beneath place p || is_beneath p place) (left es) []
      ∙ any_or (λ f. is_beneath place f.0) (λ f. is_beneath f.0 place) (left es)
      ∙ ap (λ b. b || list_any (λ (f : Place × Bytes). is_beneath f.0 place) (left es)) (any_left (is_beneath place) es above)
      ∙ beneath

  faultless : (file : Place × Bytes) → is_place file.0 ≡ true → is_blocked all file.0 ≡ false → length file.1 ≤ max_file → file_faults all file ≡ []
  faultless file at unblocked small =
      ap (λ b. fault_if (not b) (faults.BadPlace file.0) ++ fault_if (is_blocked all file.0) (faults.Blocked file.0) ++ fault_if (nat_lt max_file (length file.1)) (faults.TooLarge file.0)) at
      ∙ ap (λ b. fault_if b (faults.Blocked file.0) ++ fault_if (nat_lt max_file (length file.1)) (faults.TooLarge file.0)) unblocked
      ∙ ap (λ b. fault_if b (faults.TooLarge file.0)) (not_large (length file.1) small)

  above_none : (steps : ByText) → steps.entries ≡ es → (fs : Files) → AllByRecursion (Fits steps) fs → NoneAbove fs (left es)
  above_none steps is [] fit = tt
  above_none steps is (f ∷ fs) fit =
      (any_left (is_beneath f.0) es (ap (λ (ss : List Entry). list_any (λ (e : Entry). is_beneath f.0 (string_bytes e.0)) ss) (sym is) ∙ fit.0.clear), above_none steps is fs fit.1)

  no_faults : (steps : ByText) → steps.entries ≡ es → (fs : Files) → AllByRecursion (Fits steps) fs
      → AllByRecursion (λ y. list_any (λ (x : Place × Bytes). is_beneath x.0 y.0) (left es) ≡ false) fs → flat_map (file_faults all) fs ≡ []
  no_faults steps is [] fit beneath = refl
  no_faults steps is (f ∷ fs) fit beneath =
      let clear = ap (λ (ss : List Entry). list_any (λ (e : Entry). is_beneath f.0 (string_bytes e.0)) ss) (sym is) ∙ fit.0.clear in
      ap (λ (found : List Fault). found ++ flat_map (file_faults all) fs) (faultless f fit.0.placed (free f.0 clear beneath.0) fit.0.small)
      ∙ no_faults steps is fs fit.1 beneath.1

pub fitting : (steps : ByText) (outputs : List Output) → length steps.entries ≤ max_files → AllByRecursion (Fits steps) (files_left (steps_in steps))
    → faults_beside outputs [] (files_left (steps_in steps)) ≡ []
fitting steps outputs few fit =
    let es = steps.entries in
    let files = left es in
    let held = all es in
    let less = fewer_left es in
    let most = no_more files [] in
    let short : length held ≤ max_files = omega (arith, few, less, most) in
    beside_is outputs [] held files files refl refl
    ∙ ap (λ (found : List Fault). found ++ count_faults outputs held) (no_faults es steps refl files fit (columns files files (above_none es steps refl files fit)))
    ∙ none_full outputs held short
