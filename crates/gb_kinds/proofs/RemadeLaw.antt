-- Replies of kinds that compute all the files that they make turn the existing files into those.
use Rattle.std.proofs.Common.{◌≡◌, ◌≢◌, ℕ, Bool, true, false, true≢false, not, ◌&&◌, ◌||◌, T, if◌then◌else◌, List, [], ◌∷◌, map, Option, Some, None, is_some, unwrap_or, refl, sym, ap, subst, ◌∙◌, bytes_eq}
use Rattle.std.specs.List.{filter, list_any}
use Rattle.std.specs.Option.{option_or, option_and_then}
use Rattle.std.specs.Cmp.Lexicographic.{bytes_decides}
use Rattle.std.specs.FinMap.Entries.{below_all, is_sorted}
use Rattle.gb_core.specs.Lists.{byte_order}
use Rattle.gb_action.specs.Files.{Tree, file_at}
use Rattle.gb_action.specs.Outputs.{written_at, files_of, exists_at, is_removed}
use Rattle.gb_action.specs.Shapes.{target}
use Rattle.gb_action.specs.declared.output_files.OutputFiles.{OutputFiles}
use Rattle.gb_core.proofs.Found.{find-same, find-other}
use Rattle.gb_kinds.specs.ByFile.{file_of, holds, where_new}
use Rattle.gb_kinds.specs.Remade.{outdated, renewed, existing}
use Rattle.gb_kinds.proofs.FileLaw.{and_false, and_true, itself, some_none, some_same}
use Rattle.gb_kinds.proofs.Writing.{below, first, or_none, second, written_at-append}

-- the write for an existing file and a file to be made
abbrev pub new_at : Option (List ℕ) → Option (List ℕ) → Option (List ℕ)
new_at existed None = None
new_at existed (Some bytes) = if holds existed bytes then None else Some bytes

nowhere : (t : Bool) → ◌≡◌ {A = Option (List ℕ)} None (if t then None else None)
nowhere true = refl
nowhere false = refl

module _ (outputs : List OutputFiles) (output path : List ℕ) where
  pub existed_at : exists_at outputs target path ≡ file_at (existing outputs) path
  existed_at = by (files_of outputs target)
    where
      by : (o : Option Tree) → option_and_then (λ files. file_at files path) o ≡ file_at (unwrap_or o []) path
      by None = refl
      by (Some files) = refl

  elsewhere : (other : List ℕ) (existed : Option (List ℕ)) (bytes : List ℕ) → bytes_eq other path ≡ false → written_at (where_new other existed bytes) output path ≡ None
  elsewhere other existed bytes separate = by (holds existed bytes)
    where
      by : (b : Bool) → written_at (if b then [] else file_of other bytes ∷ []) output path ≡ None
      by true = refl
      by false = ap (λ b. if b then Some bytes else None) (and_false (bytes_eq target output) (bytes_eq other path) separate)

  here : (existed : Option (List ℕ)) (bytes : List ℕ) → written_at (where_new path existed bytes) output path ≡ (if bytes_eq target output then new_at existed (Some bytes) else None)
  here existed bytes = by (holds existed bytes)
    where
      by : (b : Bool) → written_at (if b then [] else file_of path bytes ∷ []) output path ≡ (if bytes_eq target output then (if b then None else Some bytes) else None)
      by true = nowhere (bytes_eq target output)
      by false = ap (λ b. if b then Some bytes else None) (and_true (bytes_eq target output) (bytes_eq path path) (itself path))

  -- the write at the path
  pub wrote : (made : Tree) → T (is_sorted byte_order made) → written_at (renewed outputs made) output path ≡ (if bytes_eq target output then new_at (exists_at outputs target path) (file_at made path) else None)
  wrote [] h = nowhere (bytes_eq target output)
  wrote (file ∷ made) h =
      written_at-append (where_new file.0 (exists_at outputs target file.0) file.1) (renewed outputs made) output path
      ∙ ap (λ w. option_or w (written_at (where_new file.0 (exists_at outputs target file.0) file.1) output path)) (wrote made (second (below_all byte_order file.0 made) _ h))
      ∙ by (bytes_eq file.0 path) refl
    where
      over : (t : Bool) (o : Option (List ℕ)) → option_or (if t then None else None) (if t then o else None) ≡ (if t then o else None)
      over true o = refl
      over false o = refl

      by : (b : Bool) → bytes_eq file.0 path ≡ b
          → option_or (if bytes_eq target output then new_at (exists_at outputs target path) (file_at made path) else None) (written_at (where_new file.0 (exists_at outputs target file.0) file.1) output path)
          ≡ (if bytes_eq target output then new_at (exists_at outputs target path) (file_at (file ∷ made) path) else None)
      by true e =
          let is : file.0 ≡ path = (bytes_decides file.0 path).0 e in
          let absent : file_at made path ≡ None = subst (λ q. file_at made q ≡ None) is (below file.0 made (first (below_all byte_order file.0 made) _ h)) in
          ap (λ q. option_or (if bytes_eq target output then new_at (exists_at outputs target path) (file_at made path) else None) (written_at (where_new q (exists_at outputs target q) file.1) output path)) is
          ∙ ap (λ o. option_or (if bytes_eq target output then new_at (exists_at outputs target path) o else None) (written_at (where_new path (exists_at outputs target path) file.1) output path)) absent
          ∙ ap (option_or (if bytes_eq target output then None else None)) (here (exists_at outputs target path) file.1)
          ∙ over (bytes_eq target output) (new_at (exists_at outputs target path) (Some file.1))
          ∙ ap (λ o. if bytes_eq target output then new_at (exists_at outputs target path) o else None) (sym (find-same path file made is))
      by false e =
          let other : file.0 ≢ path = λ is. true≢false (sym ((bytes_decides file.0 path).1 is) ∙ e) in
          ap (option_or (if bytes_eq target output then new_at (exists_at outputs target path) (file_at made path) else None)) (elsewhere file.0 (exists_at outputs target file.0) file.1 e)
          ∙ or_none (if bytes_eq target output then new_at (exists_at outputs target path) (file_at made path) else None)
          ∙ ap (λ o. if bytes_eq target output then new_at (exists_at outputs target path) o else None) (sym (find-other path file made other))

  -- the path is removed
  module _ (made : Tree) where
    -- a file exists at it, and none is made
    abbrev stale : List ℕ → Bool
    stale p = is_some (exists_at outputs target p) && not (is_some (file_at made p))

    pub gone : (paths : List (List ℕ)) → is_removed (outdated outputs made paths) output path ≡ (bytes_eq target output && (list_any (λ p. bytes_eq p path) paths && stale path))
    gone [] = sym (and_false (bytes_eq target output) false refl)
    gone (p ∷ paths) =
        step (stale p)
        ∙ ap (λ b. (stale p && (bytes_eq target output && bytes_eq p path)) || b) (gone paths)
        ∙ by (bytes_eq p path) refl
      where
        step : (g : Bool) → is_removed (map (λ (q : List ℕ). record { output = target; path = q }) (if g then p ∷ filter stale paths else filter stale paths)) output path
            ≡ ((g && (bytes_eq target output && bytes_eq p path)) || is_removed (outdated outputs made paths) output path)
        step true = refl
        step false = refl

        once : (s t b : Bool) → ((s && (t && true)) || (t && (b && s))) ≡ (t && s)
        once true true b = refl
        once true false b = refl
        once false true true = refl
        once false true false = refl
        once false false b = refl

        not_here : (s t : Bool) → (s && (t && false)) ≡ false
        not_here true true = refl
        not_here true false = refl
        not_here false t = refl

        by : (b : Bool) → bytes_eq p path ≡ b
            → ((stale p && (bytes_eq target output && bytes_eq p path)) || (bytes_eq target output && (list_any (λ q. bytes_eq q path) paths && stale path)))
            ≡ (bytes_eq target output && (list_any (λ q. bytes_eq q path) (p ∷ paths) && stale path))
        by true e =
            ap (λ q. (stale q && (bytes_eq target output && bytes_eq p path)) || (bytes_eq target output && (list_any (λ q. bytes_eq q path) paths && stale path))) ((bytes_decides p path).0 e)
            ∙ ap (λ b. (stale path && (bytes_eq target output && b)) || (bytes_eq target output && (list_any (λ q. bytes_eq q path) paths && stale path))) e
            ∙ once (stale path) (bytes_eq target output) (list_any (λ q. bytes_eq q path) paths)
            ∙ ap (λ b. bytes_eq target output && ((b || list_any (λ q. bytes_eq q path) paths) && stale path)) (sym e)
        by false e =
            ap (λ b. (stale p && (bytes_eq target output && b)) || (bytes_eq target output && (list_any (λ q. bytes_eq q path) paths && stale path))) e
            ∙ ap (λ b. b || (bytes_eq target output && (list_any (λ q. bytes_eq q path) paths && stale path))) (not_here (stale p) (bytes_eq target output))
            ∙ ap (λ b. bytes_eq target output && ((b || list_any (λ q. bytes_eq q path) paths) && stale path)) (sym e)

-- ---- One path, by the existing file and the file made there

module _ (t : Bool) (existed there made : Option (List ℕ)) (same : t ≡ true → there ≡ existed) (alone : t ≡ false → there ≡ None) where
  abbrev wrote_at : Bool → Option (List ℕ)
  wrote_at b = if b then new_at existed made else None

  abbrev gone_at : Bool → Bool
  gone_at b = b && (is_some existed && not (is_some made))

  and_not : (b : Bool) → (b && false) ≡ false
  and_not true = refl
  and_not false = refl

  pub leaves : option_or (wrote_at t) (if gone_at t then None else there) ≡ (if t then made else None)
  leaves = by t refl
    where
      known : (s m : Option (List ℕ)) → option_or (new_at s m) (if is_some s && not (is_some m) then None else s) ≡ m
      known None None = refl
      known (Some x) None = refl
      known None (Some y) = refl
      known (Some x) (Some y) = equal (bytes_eq x y) refl
        where
          equal : (b : Bool) → bytes_eq x y ≡ b → option_or (if b then None else Some y) (Some x) ≡ Some y
          equal true e = ap Some ((bytes_decides x y).0 e)
          equal false e = refl

      by : (b : Bool) → t ≡ b → option_or (wrote_at b) (if gone_at b then None else there) ≡ (if b then made else None)
      by true e = ap (λ o. option_or (new_at existed made) (if is_some existed && not (is_some made) then None else o)) (same e) ∙ known existed made
      by false e = alone e

  pub names_differences : (is_some (wrote_at t) || gone_at t) ≡ true → there ≢ (if t then made else None)
  names_differences = by t refl
    where
      known : (s m : Option (List ℕ)) → (is_some (new_at s m) || (is_some s && not (is_some m))) ≡ true → s ≢ m
      known None None named is = true≢false (sym named)
      known (Some x) None named is = some_none x is
      known None (Some y) named is = some_none y (sym is)
      known (Some x) (Some y) named is = true≢false (sym named ∙ ap (λ b. is_some (if b then None else Some y) || false) ((bytes_decides x y).1 (some_same x y is)))

      by : (b : Bool) → t ≡ b → (is_some (wrote_at b) || gone_at b) ≡ true → there ≢ (if b then made else None)
      by true e named is = known existed made named (sym (same e) ∙ is)
      by false e named is = true≢false (sym named)
