-- The files of outputs as they are read: by their paths, and put back under their places.
use Rattle.std.specs.Prelude.{ℕ, ◌≡◌, ◌++◌, ◌&&◌, ◌||◌, Bool, true, false, cond, List, [], ◌∷◌, map, Option, Some, None, is_some, option_map, unwrap_or, bytes_eq, if◌then◌else◌}
use Rattle.std.specs.List.{AllByRecursion, list_any}
use Rattle.std.specs.Ordering.{eq_by_cmp}
use Rattle.std.specs.FinMap.Entries.{find, is_some-find}
use Rattle.std.proofs.Common.{refl, sym, ap, ◌∙◌, inl, inr}
use mathlib.Core.Bool.{true≢false}
use Rattle.gb_core.specs.Lists.{byte_order}
use Rattle.gb_core.specs.Place.{beneath, is_place, is_under}
use Rattle.gb_folder.specs.Files.{Place, Bytes, Files, are_placed, file_at, files_under, files_where, is_own, places_under}
use Rattle.gb_folder.proofs.Changes.{file_at-files_where}
use Rattle.gb_action.specs.Outputs.{files_of}
use Rattle.gb_tree.specs.Tree.{bytes_at, contents_at, entries_from, files_from, path_from}
use Rattle.gb_tree.proofs.InOrder.{at_root, past_root}
use Rattle.gb_tree.proofs.Rest.{rest_is_place}
use Rattle.gb_tree.proofs.Under.{IsUnder, under_parts}
use Rattle.gb_plan.proofs.Places.{beneath_under}
use Rattle.gb_plan.proofs.Tests.{none_left, none_right, turned}
use Rattle.gb_plan.specs.declared.task.Output.{Output}
use Rattle.gb_semantics.specs.Made.{output_named}
use Rattle.gb_semantics.proofs.Lemmas.Files.{left_of, right_of, same_place}
use Rattle.gb_run.specs.AskingChanges.{observed_of}
use Rattle.gb_run.specs.Named.{put, existing}
use Rattle.gb_run.specs.Steps.{Step, put_steps}
use Rattle.gb_run.proofs.AtPaths.{tied_beneath}
use Rattle.gb_run.proofs.Looks.{at_put, steps_append, ties}

-- a place under a root is its path under it
pub whole : (root p : Place) → is_under p root ≡ true → is_place p ≡ true → beneath root (path_from root p) ≡ p
whole root p under good = by (under_parts p root under)
  where
    by : IsUnder p root → beneath root (path_from root p) ≡ p
    by (inl same) = ap (λ q. beneath root (path_from root q)) same ∙ ap (beneath root) (at_root root) ∙ sym same
    by (inr ([], is)) = absurd (true≢false (sym (rest_is_place root [] (ap is_place (sym is) ∙ good))))
    by (inr (c ∷ rest, is)) = ap (λ q. beneath root (path_from root q)) is ∙ ap (beneath root) (past_root root (c ∷ rest)) ∙ sym is

-- ---- one output

module _ (files : Files) (root : Place) where
  abbrev tree_in : Files → Files
  tree_in part = contents_at files (entries_from root (map (λ (file : Place × Bytes). file.0) (files_where (λ place. is_under place root) part)))

  path_in : (path : Place) (part : Files) → are_placed part ≡ true → find byte_order path (tree_in part) ≡ option_map (λ _. bytes_at files (beneath root path)) (file_at part (beneath root path))
  path_in path [] placed = refl
  path_in path (file ∷ part) placed =
      by (path_in path part (right_of (is_place file.0) (are_placed part) placed)) (is_under file.0 root) (eq_by_cmp byte_order (beneath root path) file.0) refl refl
    where
      tied : is_under file.0 root ≡ true → eq_by_cmp byte_order path (path_from root file.0) ≡ eq_by_cmp byte_order (beneath root path) file.0
      tied under =
          sym (ties path (path_from root file.0)) ∙ turned path (path_from root file.0) ∙ sym (tied_beneath root path (path_from root file.0))
          ∙ ap (eq_by_cmp byte_order (beneath root path)) (whole root file.0 under (left_of (is_place file.0) (are_placed part) placed))

      by : find byte_order path (tree_in part) ≡ option_map (λ _. bytes_at files (beneath root path)) (file_at part (beneath root path)) → (u e : Bool)
          → is_under file.0 root ≡ u → eq_by_cmp byte_order (beneath root path) file.0 ≡ e
          → find byte_order path (contents_at files (entries_from root (map (λ (f : Place × Bytes). f.0) (cond u (file ∷ files_where (λ place. is_under place root) part) (files_where (λ place. is_under place root) part)))))
          ≡ option_map (λ _. bytes_at files (beneath root path)) (cond e (Some file.1) (file_at part (beneath root path)))
      by again true true u e =
          ap (λ b. cond b (Some (bytes_at files file.0)) (find byte_order path (tree_in part))) (tied u ∙ e)
          ∙ ap (λ p. Some (bytes_at files p)) (sym (same_place (beneath root path) file.0 e))
      by again true false u e = ap (λ b. cond b (Some (bytes_at files file.0)) (find byte_order path (tree_in part))) (tied u ∙ e) ∙ again
      by again false true u e = absurd (true≢false (sym (beneath_under root path) ∙ ap (λ p. is_under p root) (same_place (beneath root path) file.0 e) ∙ u))
      by again false false u e = again

  -- what is read at a path is at its place
  pub observed_at : is_own root ≡ false → are_placed files ≡ true → (path : Place) → file_at (files_from files root) path ≡ file_at files (beneath root path)
  observed_at out placed path =
      ap (λ b. file_at (contents_at files (if b then [] else entries_from root (places_under files root))) path) out
      ∙ path_in path files placed ∙ by (file_at files (beneath root path))
    where
      by : (o : Option Bytes) → option_map (λ _. unwrap_or o []) o ≡ o
      by None = refl
      by (Some b) = refl

  -- ---- put back

  abbrev back : List Place → List (Place × Bytes)
  back places = map (λ (file : Place × Bytes). (beneath root file.0, file.1)) (contents_at files (entries_from root places))

  back_at : (held : List Step) (places : List Place) → AllByRecursion (λ p. is_under p root ≡ true) places → AllByRecursion (λ p. is_place p ≡ true) places → (q : Place)
      → find byte_order q (put_steps held (put (back places))) ≡ cond (list_any (eq_by_cmp byte_order q) places) (Some (Some (bytes_at files q))) (find byte_order q held)
  back_at held [] under good q = refl
  back_at held (p ∷ places) under good q =
      ap (λ x. find byte_order q (put_steps held ((x, Some (bytes_at files p)) ∷ put (back places)))) (whole root p under.0 good.0)
      ∙ back_at (put_steps held ((p, Some (bytes_at files p)) ∷ [])) places under.1 good.1 q
      ∙ ap (cond (list_any (eq_by_cmp byte_order q) places) (Some (Some (bytes_at files q)))) (at_put held (p, Some (bytes_at files p)) q)
      ∙ by (eq_by_cmp byte_order q p) (list_any (eq_by_cmp byte_order q) places) refl
    where
      by : (e b : Bool) → eq_by_cmp byte_order q p ≡ e
          → cond b (Some (Some (bytes_at files q))) (cond e (Some (Some (bytes_at files p))) (find byte_order q held)) ≡ cond (e || b) (Some (Some (bytes_at files q))) (find byte_order q held)
      by true true e = refl
      by true false e = ap (λ x. Some (Some (bytes_at files x))) (sym (same_place q p e))
      by false true e = refl
      by false false e = refl

  pub under_all : (part : Files) → AllByRecursion (λ p. is_under p root ≡ true) (map (λ (f : Place × Bytes). f.0) (files_where (λ place. is_under place root) part))
  under_all [] = tt
  under_all (file ∷ part) = by (under_all part) (is_under file.0 root) refl
    where
      by : AllByRecursion (λ p. is_under p root ≡ true) (map (λ (f : Place × Bytes). f.0) (files_where (λ place. is_under place root) part)) → (b : Bool) → is_under file.0 root ≡ b
          → AllByRecursion (λ p. is_under p root ≡ true) (map (λ (f : Place × Bytes). f.0) (cond b (file ∷ files_where (λ place. is_under place root) part) (files_where (λ place. is_under place root) part)))
      by again true is = (is, again)
      by again false is = again

  pub placed_all : (part : Files) → are_placed part ≡ true → AllByRecursion (λ p. is_place p ≡ true) (map (λ (f : Place × Bytes). f.0) (files_where (λ place. is_under place root) part))
  placed_all [] placed = tt
  placed_all (file ∷ part) placed = by (placed_all part (right_of (is_place file.0) (are_placed part) placed)) (is_under file.0 root)
    where
      by : AllByRecursion (λ p. is_place p ≡ true) (map (λ (f : Place × Bytes). f.0) (files_where (λ place. is_under place root) part)) → (b : Bool)
          → AllByRecursion (λ p. is_place p ≡ true) (map (λ (f : Place × Bytes). f.0) (cond b (file ∷ files_where (λ place. is_under place root) part) (files_where (λ place. is_under place root) part)))
      by again true = (left_of (is_place file.0) (are_placed part) placed, again)
      by again false = again

  -- one output's files, put back
  one_back : is_own root ≡ false → are_placed files ≡ true → (held : List Step) (q : Place)
      → find byte_order q (put_steps held (put (map (λ (file : Place × Bytes). (beneath root file.0, file.1)) (files_from files root))))
      ≡ cond (is_under q root && is_some (file_at files q)) (Some (Some (bytes_at files q))) (find byte_order q held)
  one_back out placed held q =
      ap (λ b. find byte_order q (put_steps held (put (map (λ (file : Place × Bytes). (beneath root file.0, file.1)) (contents_at files (if b then [] else entries_from root (places_under files root))))))) out
      ∙ back_at held (places_under files root) (under_all files) (placed_all files placed) q
      ∙ ap (λ b. cond b (Some (Some (bytes_at files q))) (find byte_order q held))
      (sym (is_some-find byte_order q (files_under files root)) ∙ ap is_some (file_at-files_where files (λ place. is_under place root) q) ∙ by (is_under q root) (file_at files q))
    where
      by : (u : Bool) (o : Option Bytes) → is_some (cond u o None) ≡ (u && is_some o)
      by true o = refl
      by false o = refl

-- ---- all outputs

module _ (files : Files) (placed : are_placed files ≡ true) where
  -- the files of all outputs, put back
  pub all_back : (outputs : List Output) → list_any (λ (output : Output). is_own output.place) outputs ≡ false → (held : List Step) (q : Place)
      → find byte_order q (put_steps held (put (existing outputs (map (observed_of files) outputs))))
      ≡ cond (list_any (λ (output : Output). is_under q output.place) outputs && is_some (file_at files q)) (Some (Some (bytes_at files q))) (find byte_order q held)
  all_back [] out held q = refl
  all_back (output ∷ outputs) out held q =
      ap (λ ss. find byte_order q (put_steps held ss)) (put_append (map (λ (file : Place × Bytes). (beneath output.place file.0, file.1)) (files_from files output.place)) (existing outputs (map (observed_of files) outputs)))
      ∙ ap (find byte_order q) (steps_append held (put (map (λ (file : Place × Bytes). (beneath output.place file.0, file.1)) (files_from files output.place))) (put (existing outputs (map (observed_of files) outputs))))
      ∙ all_back outputs (none_right (is_own output.place) (list_any (λ (o : Output). is_own o.place) outputs) out) (put_steps held (put (map (λ (file : Place × Bytes). (beneath output.place file.0, file.1)) (files_from files output.place)))) q
      ∙ ap (cond (list_any (λ (o : Output). is_under q o.place) outputs && is_some (file_at files q)) (Some (Some (bytes_at files q))))
      (one_back files output.place (none_left (is_own output.place) (list_any (λ (o : Output). is_own o.place) outputs) out) placed held q)
      ∙ by (is_under q output.place) (list_any (λ (o : Output). is_under q o.place) outputs) (is_some (file_at files q))
    where
      put_append : (xs ys : List (Place × Bytes)) → put (xs ++ ys) ≡ put xs ++ put ys
      put_append [] ys = refl
      put_append (x ∷ xs) ys = ap (λ ss. (x.0, Some x.1) ∷ ss) (put_append xs ys)

      by : (u b s : Bool) → cond (b && s) (Some (Some (bytes_at files q))) (cond (u && s) (Some (Some (bytes_at files q))) (find byte_order q held)) ≡ cond ((u || b) && s) (Some (Some (bytes_at files q))) (find byte_order q held)
      by true true true = refl
      by true true false = refl
      by true false true = refl
      by true false false = refl
      by false true true = refl
      by false true false = refl
      by false false true = refl
      by false false false = refl

  pub observed_named : (outputs : List Output) (name : List ℕ) → files_of (map (observed_of files) outputs) name ≡ option_map (λ (output : Output). files_from files output.place) (output_named outputs name)
  observed_named [] name = refl
  observed_named (output ∷ outputs) name = by (observed_named outputs name) (bytes_eq output.name name)
    where
      by : files_of (map (observed_of files) outputs) name ≡ option_map (λ (o : Output). files_from files o.place) (output_named outputs name) → (b : Bool)
          → (if b then Some (files_from files output.place) else files_of (map (observed_of files) outputs) name) ≡ option_map (λ (o : Output). files_from files o.place) (if b then Some output else output_named outputs name)
      by again true = refl
      by again false = again

  pub own_named : (outputs : List Output) (name : List ℕ) (output : Output) → list_any (λ (o : Output). is_own o.place) outputs ≡ false → output_named outputs name ≡ Some output → is_own output.place ≡ false
  own_named [] name output out e = absurd (let q = e in (cc))
  own_named (first ∷ outputs) name output out e =
      by (own_named outputs name output (none_right (is_own first.place) (list_any (λ (o : Output). is_own o.place) outputs) out)) (bytes_eq first.name name) e
    where
      by : (output_named outputs name ≡ Some output → is_own output.place ≡ false) → (b : Bool) → (if b then Some first else output_named outputs name) ≡ Some output → is_own output.place ≡ false
      by again true q = ap (λ (o : Output). is_own o.place) (let same : output ≡ first = cc in same) ∙ none_left (is_own first.place) (list_any (λ (o : Output). is_own o.place) outputs) out
      by again false q = again q
