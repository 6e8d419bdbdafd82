-- Replies to changes of kinds that work file by file turn the old output into the new output.
use Rattle.std.proofs.Common.{◌≡◌, ◌≢◌, ℕ, Bool, true, false, true≢false, ◌&&◌, ◌||◌, if◌then◌else◌, List, [], ◌∷◌, ◌++◌, Option, Some, None, is_some, refl, sym, ap, ◌∙◌, bytes_eq, IsTrue}
use Rattle.std.proofs.lemmas.Grind.{flat_map-append}
use Rattle.std.proofs.lemmas.List.Folds.{list_any-append}
use Rattle.std.specs.List.{flat_map}
use Rattle.std.specs.Option.{option_or, option_map}
use Rattle.std.specs.Cmp.Lexicographic.{bytes_decides}
use Rattle.std.specs.FinMap.Entries.{is_sorted}
use Rattle.gb_core.specs.Lists.{byte_order}
use Rattle.gb_action.specs.Files.{Tree, file_at}
use Rattle.gb_action.specs.Changes.{change_at, changes_between}
use Rattle.gb_action.specs.Outputs.{written_at, exists_at, is_removed}
use Rattle.gb_action.specs.Shapes.{target}
use Rattle.gb_action.specs.declared.change.Change.{Change}
use Rattle.gb_action.specs.declared.change.Change.TheVariants.{Added, Modified}
use Rattle.gb_action.specs.declared.output_files.OutputFiles.{OutputFiles}
use Rattle.gb_action.specs.declared.reply.OutputPath.{OutputPath}
use Rattle.gb_action.specs.declared.reply.Written.{Written}
use Rattle.gb_kinds.specs.ByFile.{by_file, file_of, holds, where_new, rewritten, writes_for, removes_for}
use Rattle.gb_kinds.proofs.Paths.{at_path}
use Rattle.gb_kinds.proofs.Writing.{or_none, or_same, written_at-append, written_at-by_file}

pub and_false : (a b : Bool) → b ≡ false → (a && b) ≡ false
and_false true b e = e
and_false false b e = refl

pub and_true : (a b : Bool) → b ≡ true → (a && b) ≡ a
and_true true b e = e
and_true false b e = refl

pub or_false : (b : Bool) → (b || false) ≡ b
or_false true = refl
or_false false = refl

pub or_itself : (b : Bool) → (b || b) ≡ b
or_itself true = refl
or_itself false = refl

pub itself : (x : List ℕ) → bytes_eq x x ≡ true
itself x = (bytes_decides x x).1 refl

pub differs : (x y : List ℕ) → x ≢ y → bytes_eq x y ≡ false
differs x y other = by (bytes_eq x y) refl
  where
    by : (b : Bool) → bytes_eq x y ≡ b → bytes_eq x y ≡ false
    by true e = absurd (other ((bytes_decides x y).0 e))
    by false e = e

pub some_same : {X : Type 0} (x y : X) → Some x ≡ Some y → x ≡ y
some_same x y e = cc

pub some_none : {X : Type 0} (x : X) → Some x ≢ None
some_none x e = true≢false (ap is_some e)

-- ---- One file of the output that kinds write

module _ (output path : List ℕ) where
  elsewhere : (other bytes : List ℕ) → other ≢ path → written_at (file_of other bytes ∷ []) output path ≡ None
  elsewhere other bytes separate = ap (λ b. if b then Some bytes else None) (and_false (bytes_eq target output) (bytes_eq other path) (differs other path separate))

  here : (bytes : List ℕ) → written_at (file_of path bytes ∷ []) output path ≡ (if bytes_eq target output then Some bytes else None)
  here bytes = ap (λ b. if b then Some bytes else None) (and_true (bytes_eq target output) (bytes_eq path path) (itself path))

  rewritten-elsewhere : (edit : List ℕ → List ℕ) (other : List ℕ) (existing contents : Option (List ℕ)) → other ≢ path → written_at (rewritten edit other existing contents) output path ≡ None
  rewritten-elsewhere edit other existing None separate = refl
  rewritten-elsewhere edit other existing (Some bytes) separate = by (holds existing (edit bytes))
    where
      by : (b : Bool) → written_at (if b then [] else file_of other (edit bytes) ∷ []) output path ≡ None
      by true = refl
      by false = elsewhere other (edit bytes) separate

  alone : (files : List Written) → written_at (files ++ []) output path ≡ written_at files output path
  alone files = written_at-append files [] output path

-- ---- The writes and removals of a list of changes at a path

module _ (edit : List ℕ → List ℕ) (outputs : List OutputFiles) (old new : Tree) (output path : List ℕ) where
  abbrev wrote : List Change → Option (List ℕ)
  wrote changes = written_at (flat_map (writes_for edit outputs new) changes) output path

  abbrev removed : List Change → Bool
  removed changes = is_removed (flat_map removes_for changes) output path

  wrote-append : (xs ys : List Change) → wrote (xs ++ ys) ≡ option_or (wrote ys) (wrote xs)
  wrote-append xs ys =
      ap (λ files. written_at files output path) (flat_map-append (writes_for edit outputs new) xs ys)
      ∙ written_at-append (flat_map (writes_for edit outputs new) xs) (flat_map (writes_for edit outputs new) ys) output path

  removed-append : (xs ys : List Change) → removed (xs ++ ys) ≡ (removed xs || removed ys)
  removed-append xs ys =
      ap (λ removes. is_removed removes output path) (flat_map-append removes_for xs ys)
      ∙ list_any-append (λ (gone : OutputPath). bytes_eq gone.output output && bytes_eq gone.path path) (flat_map removes_for xs) (flat_map removes_for ys)

  wrote-elsewhere : (other : List ℕ) → other ≢ path → wrote (change_at other (file_at old other) (file_at new other)) ≡ None
  wrote-elsewhere other separate = by (file_at old other) (file_at new other)
    where
      put : wrote (Added other ∷ []) ≡ None
      put =
          alone output path (rewritten edit other (exists_at outputs target other) (file_at new other))
          ∙ rewritten-elsewhere output path edit other (exists_at outputs target other) (file_at new other) separate

      by : (o n : Option (List ℕ)) → wrote (change_at other o n) ≡ None
      by None None = refl
      by None (Some y) = put
      by (Some x) None = refl
      by (Some x) (Some y) = same (bytes_eq x y)
        where
          same : (b : Bool) → wrote (if b then [] else Modified other ∷ []) ≡ None
          same true = refl
          same false = put

  removed-elsewhere : (other : List ℕ) → other ≢ path → removed (change_at other (file_at old other) (file_at new other)) ≡ false
  removed-elsewhere other separate = by (file_at old other) (file_at new other)
    where
      by : (o n : Option (List ℕ)) → removed (change_at other o n) ≡ false
      by None None = refl
      by None (Some y) = refl
      by (Some x) None = or_false _ ∙ and_false (bytes_eq target output) (bytes_eq other path) (differs other path separate)
      by (Some x) (Some y) = same (bytes_eq x y)
        where
          same : (b : Bool) → removed (if b then [] else Modified other ∷ []) ≡ false
          same true = refl
          same false = refl

  pub wrote-at_path : wrote (changes_between old new) ≡ wrote (change_at path (file_at old path) (file_at new path))
  wrote-at_path = at_path None option_or (λ v. refl) or_none or_same wrote refl wrote-append old new path wrote-elsewhere

  pub removed-at_path : removed (changes_between old new) ≡ removed (change_at path (file_at old path) (file_at new path))
  removed-at_path = at_path false (λ x y. y || x) or_false (λ v. refl) or_itself removed refl removed-append old new path removed-elsewhere

-- ---- One path, by the old and the new file at it

module _ (edit : List ℕ → List ℕ) (path output : List ℕ) where
  -- the writes if the old output exists
  abbrev changed : Option (List ℕ) → Option (List ℕ) → List Written
  changed None None = []
  changed None (Some y) = file_of path (edit y) ∷ []
  changed (Some x) None = []
  changed (Some x) (Some y) = if bytes_eq x y then [] else where_new path (Some (edit x)) (edit y)

  abbrev made : Option (List ℕ) → Option (List ℕ)
  made o = if bytes_eq target output then option_map edit o else None

  abbrev gone : Option (List ℕ) → Option (List ℕ) → Bool
  gone o n = is_removed (flat_map removes_for (change_at path o n)) output path

  abbrev left : Option (List ℕ) → Option (List ℕ) → Option (List ℕ)
  left o n = option_or (written_at (changed o n) output path) (if gone o n then None else made o)

  abbrev names : Option (List ℕ) → Option (List ℕ) → Bool
  names o n = is_some (written_at (changed o n) output path) || gone o n

  gone-is : (x : List ℕ) → gone (Some x) None ≡ bytes_eq target output
  gone-is x = or_false _ ∙ and_true (bytes_eq target output) (bytes_eq path path) (itself path)

  over : (t : Bool) (bytes : List ℕ) (o : Option (List ℕ)) → option_or (if t then Some bytes else None) (if t then o else None) ≡ (if t then Some bytes else None)
  over true bytes o = refl
  over false bytes o = refl

  taken : (t : Bool) (o : Option (List ℕ)) → (if t then None else (if t then o else None)) ≡ (if t then option_map edit None else None)
  taken true o = refl
  taken false o = refl

  pub leaves : (o n : Option (List ℕ)) → left o n ≡ made n
  leaves None None = refl
  leaves None (Some y) = ap (λ w. option_or w (made None)) (here output path (edit y)) ∙ over (bytes_eq target output) (edit y) None
  leaves (Some x) None = ap (λ b. if b then None else made (Some x)) (gone-is x) ∙ taken (bytes_eq target output) (Some (edit x))
  leaves (Some x) (Some y) = by (bytes_eq x y) refl
    where
      by : (b : Bool) → bytes_eq x y ≡ b
          → option_or (written_at (if b then [] else where_new path (Some (edit x)) (edit y)) output path) (if is_removed (flat_map removes_for (if b then [] else Modified path ∷ [])) output path then None else made (Some x)) ≡ made (Some y)
      by true e = ap (λ z. made (Some z)) ((bytes_decides x y).0 e)
      by false e = new (bytes_eq (edit x) (edit y)) refl
        where
          new : (b : Bool) → bytes_eq (edit x) (edit y) ≡ b → option_or (written_at (if b then [] else file_of path (edit y) ∷ []) output path) (made (Some x)) ≡ made (Some y)
          new true same = ap (λ z. if bytes_eq target output then Some z else None) ((bytes_decides (edit x) (edit y)).0 same)
          new false same = ap (λ w. option_or w (made (Some x))) (here output path (edit y)) ∙ over (bytes_eq target output) (edit y) (Some (edit x))

  pub names_differences : (o n : Option (List ℕ)) → names o n ≡ true → made o ≢ made n
  names_differences None None named same = true≢false (sym named)
  names_differences None (Some y) named same = by (bytes_eq target output) (sym (ap (λ w. is_some w || false) (here output path (edit y))) ∙ named) same
    where
      by : (t : Bool) → (is_some (if t then Some (edit y) else None) || false) ≡ true → (if t then option_map edit None else None) ≡ (if t then Some (edit y) else None) → ⊥
      by true is e = some_none (edit y) (sym e)
      by false is e = true≢false (sym is)
  names_differences (Some x) None named same = by (bytes_eq target output) (sym (gone-is x) ∙ named) same
    where
      by : (t : Bool) → t ≡ true → (if t then Some (edit x) else None) ≡ (if t then option_map edit None else None) → ⊥
      by true is e = some_none (edit x) e
      by false is e = true≢false (sym is)
  names_differences (Some x) (Some y) named same = by (bytes_eq x y) named
    where
      by : (b : Bool) → (is_some (written_at (if b then [] else where_new path (Some (edit x)) (edit y)) output path) || is_removed (flat_map removes_for (if b then [] else Modified path ∷ [])) output path) ≡ true → ⊥
      by true is = true≢false (sym is)
      by false is = new (bytes_eq (edit x) (edit y)) refl is
        where
          separate : (t : Bool) → bytes_eq (edit x) (edit y) ≡ false → (is_some (if t then Some (edit y) else None) || false) ≡ true → (if t then Some (edit x) else None) ≡ (if t then Some (edit y) else None) → ⊥
          separate true other put e = true≢false (sym ((bytes_decides (edit x) (edit y)).1 (some_same (edit x) (edit y) e)) ∙ other)
          separate false other put e = true≢false (sym put)

          new : (b : Bool) → bytes_eq (edit x) (edit y) ≡ b → (is_some (written_at (if b then [] else file_of path (edit y) ∷ []) output path) || false) ≡ true → ⊥
          new true other put = true≢false (sym put)
          new false other put = separate (bytes_eq target output) other (sym (ap (λ w. is_some w || false) (here output path (edit y))) ∙ put) same

-- ---- All of a reply

module _ (edit : List ℕ → List ℕ) (outputs : List OutputFiles) (old new : Tree)
    (before : IsTrue (is_sorted byte_order old)) (after : IsTrue (is_sorted byte_order new))
    (exists : (output path : List ℕ) → exists_at outputs output path ≡ written_at (by_file edit old) output path) (output path : List ℕ) where
  existed : exists_at outputs output path ≡ made edit path output (file_at old path)
  existed = exists output path ∙ written_at-by_file edit output path old before

  existed_here : exists_at outputs target path ≡ option_map edit (file_at old path)
  existed_here = exists target path ∙ written_at-by_file edit target path old before

  written : wrote edit outputs old new output path (change_at path (file_at old path) (file_at new path)) ≡ written_at (changed edit path output (file_at old path) (file_at new path)) output path
  written = by (file_at old path) (file_at new path) refl refl
    where
      put : (existing contents : Option (List ℕ)) → exists_at outputs target path ≡ existing → file_at new path ≡ contents
          → wrote edit outputs old new output path (Added path ∷ []) ≡ written_at (rewritten edit path existing contents) output path
      put existing contents p q =
          alone output path (rewritten edit path (exists_at outputs target path) (file_at new path))
          ∙ ap (λ s. written_at (rewritten edit path s (file_at new path)) output path) p
          ∙ ap (λ s. written_at (rewritten edit path existing s) output path) q

      by : (o n : Option (List ℕ)) → file_at old path ≡ o → file_at new path ≡ n
          → wrote edit outputs old new output path (change_at path o n) ≡ written_at (changed edit path output o n) output path
      by None None p q = refl
      by None (Some y) p q = put None (Some y) (existed_here ∙ ap (option_map edit) p) q
      by (Some x) None p q = refl
      by (Some x) (Some y) p q = same (bytes_eq x y)
        where
          same : (b : Bool) → wrote edit outputs old new output path (if b then [] else Modified path ∷ []) ≡ written_at (if b then [] else where_new path (Some (edit x)) (edit y)) output path
          same true = refl
          same false = put (Some (edit x)) (Some y) (existed_here ∙ ap (option_map edit) p) q

  wrote_is : wrote edit outputs old new output path (changes_between old new) ≡ written_at (changed edit path output (file_at old path) (file_at new path)) output path
  wrote_is = wrote-at_path edit outputs old new output path ∙ written

  removed_is : removed edit outputs old new output path (changes_between old new) ≡ gone edit path output (file_at old path) (file_at new path)
  removed_is = removed-at_path edit outputs old new output path

  pub carries : option_or (written_at (flat_map (writes_for edit outputs new) (changes_between old new)) output path) (if is_removed (flat_map removes_for (changes_between old new)) output path then None else exists_at outputs output path)
      ≡ written_at (by_file edit new) output path
  carries =
      ap (λ w. option_or w (if is_removed (flat_map removes_for (changes_between old new)) output path then None else exists_at outputs output path)) wrote_is
      ∙ ap (λ b. option_or (written_at (changed edit path output (file_at old path) (file_at new path)) output path) (if b then None else exists_at outputs output path)) removed_is
      ∙ ap (λ s. option_or (written_at (changed edit path output (file_at old path) (file_at new path)) output path) (if gone edit path output (file_at old path) (file_at new path) then None else s)) existed
      ∙ leaves edit path output (file_at old path) (file_at new path)
      ∙ sym (written_at-by_file edit output path new after)

  pub is_frugal : (is_some (written_at (flat_map (writes_for edit outputs new) (changes_between old new)) output path) || is_removed (flat_map removes_for (changes_between old new)) output path) ≡ true
      → exists_at outputs output path ≢ written_at (by_file edit new) output path
  is_frugal named same =
      names_differences edit path output (file_at old path) (file_at new path)
      (sym (ap (λ w. is_some w || removed edit outputs old new output path (changes_between old new)) wrote_is ∙ ap (λ b. is_some (written_at (changed edit path output (file_at old path) (file_at new path)) output path) || b) removed_is) ∙ named)
      (sym existed ∙ same ∙ written_at-by_file edit output path new after)
