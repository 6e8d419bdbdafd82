-- The changes of all properties from no file.
use Rattle.std.specs.Prelude.{◌≡◌, ◌++◌, ◌<◌, ◌≤◌, get_or, ℕ, zero, suc, true, false, cond, List, [], ◌∷◌, length, map, take}
use Rattle.std.specs.List.{filter, flat_map, zip}
use Rattle.std.proofs.Common.{refl, ap, ap₂, ◌∙◌, arith}
use Rattle.gb_action.specs.Changes.{Changes, changes_between}
use Rattle.gb_action.specs.Files.{Tree, Trees}
use Rattle.gb_folder.specs.Files.{Files}
use Rattle.gb_history.specs.Record.{Prints}
use Rattle.gb_semantics.specs.Tree.{tree_of}
use Rattle.gb_plan.specs.declared.task.FileProperty.{FileProperty}
use Rattle.gb_tree.specs.Prints.{digests_of}
use Rattle.gb_label.specs.Reading.{digests_in}
use Rattle.gb_task.specs.Reading.{added_in, added_of}

abbrev reported : Files → FileProperty → Changes
reported files property = (property.name, changes_between [] (tree_of property files))

pub all_reported : (files : Files) (properties : List FileProperty)
    → flat_map (λ (property : FileProperty). added_in property (tree_of property files)) properties ≡ map (reported files) (filter (λ (property : FileProperty). property.incremental) properties)
all_reported files [] = refl
all_reported files (property ∷ properties) =
    let added : FileProperty → List Changes = λ p. added_in p (tree_of p files) in
    let rest = all_reported files properties in
    elim property.incremental as (λ b. cond b (reported files property ∷ []) [] ++ flat_map added properties
    ≡ map (reported files) (cond b (property ∷ filter (λ (p : FileProperty). p.incremental) properties) (filter (λ (p : FileProperty). p.incremental) properties))) [
      | true ↦ ap (λ (l : List Changes). reported files property ∷ l) rest
      | false ↦ rest
    ]

-- a front as long as the list is the list
pub take_past : {X : Type 0} (xs : List X) (n : ℕ) → length xs ≤ n → take n xs ≡ xs
take_past [] zero le = refl
take_past [] (suc n) le = refl
take_past (x ∷ xs) zero le = absurd (omega (arith, le))
take_past (x ∷ xs) (suc n) le = ap (λ ys. x ∷ ys) (take_past xs n (omega (arith, le)))

-- the same for all properties, on the trees of these files
pub all_of : (files : Files) (properties : List FileProperty)
    → added_of properties (map (λ (property : FileProperty). let tree : List ℕ × Tree = (property.name, tree_of property files) in tree) properties)
    ≡ map (reported files) (filter (λ (property : FileProperty). property.incremental) properties)
all_of files properties = pairs properties ∙ all_reported files properties
  where
    pairs : (ps : List FileProperty) → added_of ps (map (λ (property : FileProperty). let tree : List ℕ × Tree = (property.name, tree_of property files) in tree) ps)
        ≡ flat_map (λ (property : FileProperty). added_in property (tree_of property files)) ps
    pairs [] = refl
    pairs (p ∷ ps) = ap (λ (l : List Changes). added_in p (tree_of p files) ++ l) (pairs ps)

-- the tree that has the digests at a place
pub tree_there : (trees : Trees) (i : ℕ) (found : Prints) → i < length trees → found ≡ get_or (digests_in trees) i found
    → (tree : List ℕ × Tree) × (tree ≡ get_or trees i tree) × (found.1 ≡ digests_of tree.1)
tree_there [] i found less at = absurd (omega (arith, less))
tree_there (tree ∷ trees) zero found less at = (tree, refl, ap (λ (f : Prints). f.1) at)
tree_there (tree ∷ trees) (suc i) found less at = tree_there trees i found (omega (arith, less)) at

pub pair_there : (properties : List FileProperty) (trees : Trees) (i : ℕ) (item : FileProperty) (tree : List ℕ × Tree) → i < length properties → i < length trees
    → item ≡ get_or properties i item → tree ≡ get_or trees i tree
    → (i < length (zip properties trees)) × ((item, tree) ≡ get_or (zip properties trees) i (item, tree))
pair_there [] trees i item tree less below is at = absurd (omega (arith, less))
pair_there (p ∷ ps) [] i item tree less below is at = absurd (omega (arith, below))
pair_there (p ∷ ps) (t ∷ ts) zero item tree less below is at = (omega arith, ap₂ (λ (x : FileProperty) (y : List ℕ × Tree). let pair : FileProperty × (List ℕ × Tree) = (x, y) in pair) is at)
pair_there (p ∷ ps) (t ∷ ts) (suc i) item tree less below is at =
    let rest = pair_there ps ts i item tree (omega (arith, less)) (omega (arith, below)) is at in
    (omega (arith, rest.0), rest.1)

pub as_long : (properties : List FileProperty) (trees : Trees) → length properties ≡ length trees → length (zip properties trees) ≡ length properties
as_long [] [] same = refl
as_long [] (t ∷ ts) same = refl
as_long (p ∷ ps) [] same = absurd (omega (arith, same))
as_long (p ∷ ps) (t ∷ ts) same = let rest = as_long ps ts (omega (arith, same)) in omega (arith, rest)

pub many_digests : (trees : Trees) → length (digests_in trees) ≡ length trees
many_digests [] = refl
many_digests (t ∷ ts) = let rest = many_digests ts in omega (arith, rest)
