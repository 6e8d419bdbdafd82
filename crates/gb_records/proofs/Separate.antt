-- What digests imply for contents, if no two contents share one.
use Rattle.std.specs.Prelude.{◌≡◌, ℕ, Bool, true, false, cond, List, [], ◌∷◌, map, Option, Some, None, is_some, unwrap_or, IsTrue}
use Rattle.std.specs.List.{AllByRecursion}
use Rattle.std.specs.Option.{option_map}
use Rattle.std.specs.Ordering.{eq_by_cmp, is_eq, ordering_reverse}
use Rattle.std.specs.declared.cmp.Ordering.{Ordering}
use Rattle.std.proofs.lemmas.Bool.{and_parts}
use Rattle.std.specs.declared.cmp.Ordering.TheVariants.{Less, Equal, Greater}
use Rattle.std.specs.Cmp.Lexicographic.{bytes_decides}
use Rattle.std.specs.FinMap.Entries.{find}
use Rattle.std.proofs.Common.{refl, sym, ap, ap₂, subst, ◌∙◌}
use Rattle.std.proofs.lemmas.Map.Text.{is_eq-slice_cmp}
use mathlib.Core.Bool.{true≢false}
use Rattle.gb_core.specs.Lists.{byte_order}
use Rattle.gb_core.specs.Place.{is_under, is_place}
use Rattle.gb_folder.specs.Files.{Place, Bytes, Files, are_placed, file_at, files_where, is_own}
use Rattle.gb_action.specs.Files.{Tree, Trees}
use Rattle.gb_tree.specs.Tree.{bytes_at, path_from, entries_from, contents_at, files_from}
use Rattle.gb_tree.proofs.Under.{under_parts}
use Rattle.gb_tree.proofs.InOrder.{paths_ordered}
use Rattle.gb_semantics.specs.TrueRecord.{prints_of}
use Rattle.gb_semantics.proofs.Lemmas.Files.{same_place, tied_same, total}

module _ (digest : Bytes → List ℕ) (P : Bytes → Type 0) (separate : (a b : Bytes) → P a → P b → digest a ≡ digest b → a ≡ b) where
  abbrev pub AllObserved : Tree → Type 0
  AllObserved tree = AllByRecursion (λ (file : Place × Bytes). P file.1) tree

  abbrev pub reported : Tree → List (Place × List ℕ)
  reported tree = map (λ (file : Place × Bytes). let pair : Place × List ℕ = (file.0, digest file.1) in pair) tree

  pub tree_back : (old new : Tree) → AllObserved old → AllObserved new → reported old ≡ reported new → old ≡ new
  tree_back [] [] p q e = refl
  tree_back [] (b ∷ new) p q e = absurd (cc)
  tree_back (a ∷ old) [] p q e = absurd (cc)
  tree_back (a ∷ old) (b ∷ new) p q e =
      let left : Place × List ℕ = (a.0, digest a.1) in
      let right : Place × List ℕ = (b.0, digest b.1) in
      let head : left ≡ right = cc in
      let path : a.0 ≡ b.0 = ap (λ (p : Place × List ℕ). p.0) head in
      let one : digest a.1 ≡ digest b.1 = ap (λ (p : Place × List ℕ). p.1) head in
      let rest : reported old ≡ reported new = cc in
      let bytes : a.1 ≡ b.1 = separate a.1 b.1 p.0 q.0 one in
      ap₂ (λ (x : Place × Bytes) (l : Tree). x ∷ l) (ap₂ (λ (x : Place) (y : Bytes). (x, y)) path bytes) (tree_back old new p.1 q.1 rest)

  pub trees_back : (old new : Trees) → AllByRecursion (λ (tree : List ℕ × Tree). AllObserved tree.1) old → AllByRecursion (λ (tree : List ℕ × Tree). AllObserved tree.1) new
      → prints_of digest old ≡ prints_of digest new → old ≡ new
  trees_back [] [] p q e = refl
  trees_back [] (b ∷ new) p q e = absurd (cc)
  trees_back (a ∷ old) [] p q e = absurd (cc)
  trees_back (a ∷ old) (b ∷ new) p q e =
      let left : List ℕ × List (Place × List ℕ) = (a.0, reported a.1) in
      let right : List ℕ × List (Place × List ℕ) = (b.0, reported b.1) in
      let head : left ≡ right = cc in
      let name : a.0 ≡ b.0 = ap (λ (p : List ℕ × List (Place × List ℕ)). p.0) head in
      let one : reported a.1 ≡ reported b.1 = ap (λ (p : List ℕ × List (Place × List ℕ)). p.1) head in
      let rest : prints_of digest old ≡ prints_of digest new = cc in
      ap₂ (λ (x : List ℕ × Tree) (l : Trees). x ∷ l) (ap₂ (λ (x : List ℕ) (y : Tree). (x, y)) name (tree_back a.1 b.1 p.0 q.0 one)) (trees_back old new p.1 q.1 rest)

equal_of : (o : Ordering) → is_eq o ≡ true → o ≡ Equal
equal_of Less e = absurd (true≢false (sym e))
equal_of Equal e = refl
equal_of Greater e = absurd (true≢false (sym e))

-- ---- each file of a folder is found in it

abbrev AreFound : Files → Files → Type 0
AreFound files part = AllByRecursion (λ (file : Place × Bytes). is_some (file_at files file.0) ≡ true) part

found_after : (file : Place × Bytes) (files part : Files) → AreFound files part → AreFound (file ∷ files) part
found_after file files [] all = tt
found_after file files (one ∷ part) all = (
  elim (eq_by_cmp byte_order one.0 file.0) as (λ b. is_some (cond b (Some file.1) (file_at files one.0)) ≡ true) [ true ↦ refl | false ↦ all.0 ],
  found_after file files part all.1,
)

ties_itself : (place : Place) → eq_by_cmp byte_order place place ≡ true
ties_itself place = is_eq-slice_cmp place place ∙ (bytes_decides place place).1 refl

found_all : (files : Files) → AreFound files files
found_all [] = tt
found_all (file ∷ files) = (ap (λ b. is_some (cond b (Some file.1) (file_at files file.0))) (ties_itself file.0), found_after file files files (found_all files))

-- the files of an output have contents of the folder
module _ (P : Bytes → Type 0) where
  entries_observed : (files : Files) → AllByRecursion (λ (file : Place × Bytes). P file.1) files → (root : Place) (part : Files) → AreFound files part
      → AllByRecursion (λ (file : Place × Bytes). P file.1) (contents_at files (entries_from root (map (λ file. file.0) (files_where (λ place. is_under place root) part))))
  entries_observed files all root [] found = tt
  entries_observed files all root (file ∷ part) found =
      elim (is_under file.0 root) as (λ b. AllByRecursion (λ (f : Place × Bytes). P f.1)
      (contents_at files (entries_from root (map (λ f. f.0) (cond b (file ∷ files_where (λ place. is_under place root) part) (files_where (λ place. is_under place root) part)))))) [
        | true ↦ (exists (file_at files file.0) (observed_at files all file.0) found.0, entries_observed files all root part found.1)
        | false ↦ entries_observed files all root part found.1
      ]
    where
      exists : (o : Option Bytes) → ((b : Bytes) → o ≡ Some b → P b) → is_some o ≡ true → P (unwrap_or o [])
      exists None h e = absurd (true≢false (sym e))
      exists (Some b) h e = h b refl

      observed_at : (fs : Files) → AllByRecursion (λ (f : Place × Bytes). P f.1) fs → (place : Place) (bytes : Bytes) → file_at fs place ≡ Some bytes → P bytes
      observed_at [] h place bytes e = absurd (cc)
      observed_at (f ∷ fs) h place bytes e =
          elim (eq_by_cmp byte_order place f.0) as (λ b. cond b (Some f.1) (file_at fs place) ≡ Some bytes → P bytes) [
            | true ↦ λ is. let same : f.1 ≡ bytes = cc in subst P same h.0
            | false ↦ λ is. observed_at fs h.1 place bytes is
          ] e

  pub output_observed : (files : Files) → AllByRecursion (λ (file : Place × Bytes). P file.1) files → (root : Place) → AllByRecursion (λ (file : Place × Bytes). P file.1) (files_from files root)
  output_observed files all root =
      elim (is_own root) as (λ b. AllByRecursion (λ (f : Place × Bytes). P f.1) (contents_at files (cond b [] (entries_from root (map (λ f. f.0) (files_where (λ place. is_under place root) files)))))) [
        | true ↦ tt
        | false ↦ entries_observed files all root files (found_all files)
      ]

-- ---- what is at an output, by its path from there

path_tie : (root q p : Place) → IsTrue (is_under q root) → IsTrue (is_under p root) → is_place q ≡ true → is_place p ≡ true → path_from root q ≡ path_from root p → q ≡ p
path_tie root q p uq up good_q good_p e = by (byte_order q p) refl
  where
    itself : byte_order (path_from root p) (path_from root p) ≡ Equal
    itself = equal_of (byte_order (path_from root p) (path_from root p)) (ties_itself (path_from root p))

    by : (o : Ordering) → byte_order q p ≡ o → q ≡ p
    by Less is =
        let far : byte_order (path_from root p) (path_from root q) ≡ Greater = paths_ordered root q p (under_parts q root uq) (under_parts p root up) good_p is in
        let near : byte_order (path_from root p) (path_from root q) ≡ Equal = ap (byte_order (path_from root p)) e ∙ itself in
        absurd (cc)
    by Equal is = tied_same q p is
    by Greater is =
        let less : byte_order p q ≡ Less = total.antisymm p q ∙ ap ordering_reverse is in
        let far : byte_order (path_from root q) (path_from root p) ≡ Greater = paths_ordered root p q (under_parts p root up) (under_parts q root uq) good_q less in
        let near : byte_order (path_from root q) (path_from root p) ≡ Equal = ap (λ x. byte_order x (path_from root p)) e ∙ itself in
        absurd (cc)

differs : (root q p : Place) → IsTrue (is_under q root) → IsTrue (is_under p root) → is_place q ≡ true → is_place p ≡ true → eq_by_cmp byte_order q p ≡ false
    → eq_by_cmp byte_order (path_from root q) (path_from root p) ≡ false
differs root q p uq up good_q good_p separate = by (eq_by_cmp byte_order (path_from root q) (path_from root p)) refl
  where
    by : (b : Bool) → eq_by_cmp byte_order (path_from root q) (path_from root p) ≡ b → b ≡ false
    by true e = let same : q ≡ p = path_tie root q p uq up good_q good_p (same_place (path_from root q) (path_from root p) e) in
        absurd (true≢false (sym (ap (eq_by_cmp byte_order q) (sym same) ∙ ties_itself q) ∙ separate))
    by false e = refl

found_in : (files : Files) (root q : Place) → IsTrue (is_under q root) → is_place q ≡ true → (part : Files) → are_placed part ≡ true
    → find byte_order (path_from root q) (contents_at files (entries_from root (map (λ file. file.0) (files_where (λ place. is_under place root) part))))
    ≡ option_map (λ _. bytes_at files q) (file_at part q)
found_in files root q under good [] placed = refl
found_in files root q under good (file ∷ part) placed = by (found_in files root q under good part parts.1) (is_under file.0 root) (eq_by_cmp byte_order q file.0) refl refl
  where
    parts : (is_place file.0 ≡ true) × (are_placed part ≡ true)
    parts = and_parts (is_place file.0) (are_placed part) placed

    here : (find byte_order (path_from root q) (contents_at files (entries_from root (map (λ f. f.0) (files_where (λ place. is_under place root) part)))) ≡ option_map (λ _. bytes_at files q) (file_at part q)) → (b : Bool) → eq_by_cmp byte_order q file.0 ≡ b → is_under file.0 root ≡ true
        → cond (eq_by_cmp byte_order (path_from root q) (path_from root file.0)) (Some (bytes_at files file.0))
        (find byte_order (path_from root q) (contents_at files (entries_from root (map (λ f. f.0) (files_where (λ place. is_under place root) part)))))
        ≡ option_map (λ _. bytes_at files q) (cond b (Some file.1) (file_at part q))
    here rest true e u =
        let same : q ≡ file.0 = same_place q file.0 e in
        ap (λ p. cond (eq_by_cmp byte_order (path_from root q) (path_from root p)) (Some (bytes_at files p)) (find byte_order (path_from root q) (contents_at files (entries_from root (map (λ f. f.0) (files_where (λ place. is_under place root) part)))))) (sym same)
        ∙ ap (λ b. cond b (Some (bytes_at files q)) (find byte_order (path_from root q) (contents_at files (entries_from root (map (λ f. f.0) (files_where (λ place. is_under place root) part)))))) (ties_itself (path_from root q))
    here rest false e u =
        ap (λ b. cond b (Some (bytes_at files file.0)) (find byte_order (path_from root q) (contents_at files (entries_from root (map (λ f. f.0) (files_where (λ place. is_under place root) part))))))
        (differs root q file.0 under u good parts.0 e)
        ∙ rest

    by : (find byte_order (path_from root q) (contents_at files (entries_from root (map (λ f. f.0) (files_where (λ place. is_under place root) part)))) ≡ option_map (λ _. bytes_at files q) (file_at part q)) → (u t : Bool) → is_under file.0 root ≡ u → eq_by_cmp byte_order q file.0 ≡ t
        → find byte_order (path_from root q) (contents_at files (entries_from root (map (λ f. f.0) (cond u (file ∷ files_where (λ place. is_under place root) part) (files_where (λ place. is_under place root) part)))))
        ≡ option_map (λ _. bytes_at files q) (cond t (Some file.1) (file_at part q))
    by rest true t u e = here rest t e u
    by rest false true u e = absurd (true≢false (sym under ∙ ap (λ p. is_under p root) (same_place q file.0 e) ∙ u))
    by rest false false u e = rest

pub found_from : (files : Files) (root q : Place) → is_own root ≡ false → IsTrue (is_under q root) → is_place q ≡ true → are_placed files ≡ true
    → find byte_order (path_from root q) (files_from files root) ≡ file_at files q
found_from files root q out under good placed =
    ap (λ b. find byte_order (path_from root q) (contents_at files (cond b [] (entries_from root (map (λ f. f.0) (files_where (λ place. is_under place root) files)))))) out
    ∙ found_in files root q under good files placed ∙ whole (file_at files q)
  where
    whole : (o : Option Bytes) → option_map (λ _. unwrap_or o []) o ≡ o
    whole None = refl
    whole (Some bytes) = refl
