-- What changes do at one path: the changes of that path alone.
use Rattle.std.proofs.Common.{◌≡◌, ◌≢◌, ℕ, Bool, true, false, true≢false, if◌then◌else◌, List, [], ◌∷◌, ◌++◌, Option, Some, None, is_some, refl, sym, ap, ◌∙◌, bytes_eq}
use Rattle.std.specs.List.{flat_map}
use Rattle.std.specs.Option.{option_or}
use Rattle.std.specs.Cmp.Lexicographic.{bytes_decides}
use Rattle.gb_action.specs.Files.{Tree, file_at}
use Rattle.gb_action.specs.Changes.{change_at, in_order, changes_between}
use Rattle.gb_action.specs.declared.change.Change.{Change}
use Rattle.gb_action.specs.declared.change.Change.TheVariants.{Modified}
use Rattle.gb_core.proofs.Found.{find-same, find-other}
use Rattle.gb_action.proofs.Reported.{in_order-find, either-find}

-- a value of change lists that is joined from the values of their parts
module _ {V : Type 0} (none : V) (or : V → V → V) (left : (v : V) → or none v ≡ v) (right : (v : V) → or v none ≡ v) (same : (v : V) → or v v ≡ v)
    (F : List Change → V) (empty : F [] ≡ none) (joins : (xs ys : List Change) → F (xs ++ ys) ≡ or (F ys) (F xs)) (old new : Tree) (path : List ℕ)
    (elsewhere : (other : List ℕ) → other ≢ path → F (change_at other (file_at old other) (file_at new other)) ≡ none) where
  abbrev reported : List ℕ × List ℕ → List Change
  reported file = change_at file.0 (file_at old file.0) (file_at new file.0)

  abbrev here : V
  here = F (change_at path (file_at old path) (file_at new path))

  again : (found : Option (List ℕ)) → or (if is_some found then here else none) here ≡ here
  again None = left here
  again (Some x) = same here

  at_keys : (keys : Tree) → F (flat_map reported keys) ≡ (if is_some (file_at keys path) then here else none)
  at_keys [] = empty
  at_keys (key ∷ keys) = joins (reported key) (flat_map reported keys) ∙ ap (λ v. or v (F (reported key))) (at_keys keys) ∙ by (bytes_eq key.0 path) refl
    where
      by : (b : Bool) → bytes_eq key.0 path ≡ b → or (if is_some (file_at keys path) then here else none) (F (reported key)) ≡ (if is_some (file_at (key ∷ keys) path) then here else none)
      by true e =
          let is : key.0 ≡ path = (bytes_decides key.0 path).0 e in
          ap (λ q. or (if is_some (file_at keys path) then here else none) (F (change_at q (file_at old q) (file_at new q)))) is
          ∙ again (file_at keys path)
          ∙ ap (λ o. if is_some o then here else none) (sym (find-same path key keys is))
      by false e =
          let other : key.0 ≢ path = λ is. true≢false (sym ((bytes_decides key.0 path).1 is) ∙ e) in
          ap (or (if is_some (file_at keys path) then here else none)) (elsewhere key.0 other)
          ∙ right (if is_some (file_at keys path) then here else none)
          ∙ ap (λ o. if is_some o then here else none) (sym (find-other path key keys other))

  either : (o n : Option (List ℕ)) → (if is_some (option_or o n) then F (change_at path o n) else none) ≡ F (change_at path o n)
  either None None = sym empty
  either None (Some y) = refl
  either (Some x) n = refl

  pub at_path : F (changes_between old new) ≡ here
  at_path =
      at_keys (in_order (old ++ new))
      ∙ ap (λ o. if is_some o then here else none) (in_order-find (old ++ new) path ∙ either-find old new path)
      ∙ either (file_at old path) (file_at new path)

-- a tree that stays has no changes
unchanged_at : (path : List ℕ) (o : Option (List ℕ)) → change_at path o o ≡ []
unchanged_at path None = refl
unchanged_at path (Some x) = ap (λ b. if b then [] else Modified path ∷ []) ((bytes_decides x x).1 refl)

pub unchanged : (tree : Tree) → changes_between tree tree ≡ []
unchanged tree = by (in_order (tree ++ tree))
  where
    by : (keys : Tree) → flat_map (λ (file : List ℕ × List ℕ). change_at file.0 (file_at tree file.0) (file_at tree file.0)) keys ≡ []
    by [] = refl
    by (key ∷ keys) =
        ap (λ changes. changes ++ flat_map (λ (file : List ℕ × List ℕ). change_at file.0 (file_at tree file.0) (file_at tree file.0)) keys) (unchanged_at key.0 (file_at tree key.0))
        ∙ by keys
