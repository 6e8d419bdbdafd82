-- What digests show about the contents.
use Rattle.std.proofs.Common.{◌≡◌, ℕ, cond, List, [], ◌∷◌, ◌++◌, Option, Some, None, refl, sym, ◌∙◌, ap}
use Rattle.std.specs.List.{flat_map}
use Rattle.std.specs.Option.{option_map}
use Rattle.std.specs.Ordering.{is_eq, is_lt}
use Rattle.std.specs.Prelude.{bytes_eq, ◌&&◌}
use Rattle.std.specs.Cmp.{both_ways}
use Rattle.std.specs.Cmp.Lexicographic.{bytes_decides}
use Rattle.std.specs.declared.cmp.Ordering.TheVariants.{Less, Equal, Greater}
use Rattle.std.specs.FinMap.Entries.{put, by_order, below_all, is_sorted}
use Rattle.gb_action.specs.Changes.{change_at, changes_between, in_order}
use Rattle.gb_core.specs.Lists.{byte_order}
use Rattle.gb_action.specs.Files.{Tree, file_at}
use Rattle.gb_action.specs.declared.change.Change.{Change}
use Rattle.gb_action.specs.declared.change.Change.TheVariants.{Modified}
use Rattle.gb_tree.specs.Prints.{AreCollisionFree, digests_of}
use Rattle.sha2.specs.Sha256.{sha256}

put_digest : (k v : List ℕ) (es : Tree) → digests_of (put byte_order k v es) ≡ put byte_order k (sha256 v) (digests_of es)
put_digest k v [] = refl
put_digest k v (e ∷ es) = elim (byte_order k e.0) as (λ o. digests_of (by_order o ((k, v) ∷ e ∷ es) ((e.0, v) ∷ es) (e ∷ put byte_order k v es))
    ≡ by_order o ((k, sha256 v) ∷ digests_of (e ∷ es)) ((e.0, sha256 v) ∷ digests_of es) ((e.0, sha256 e.1) ∷ put byte_order k (sha256 v) (digests_of es))) [
      | Less ↦ refl
      | Equal ↦ refl
      | Greater ↦ ap (λ ds. (e.0, sha256 e.1) ∷ ds) (put_digest k v es)
    ]

in_order_digests : (es : Tree) → digests_of (in_order es) ≡ in_order (digests_of es)
in_order_digests [] = refl
in_order_digests (e ∷ es) = put_digest e.0 e.1 (in_order es) ∙ ap (put byte_order e.0 (sha256 e.1)) (in_order_digests es)

pub digests_append : (old new : Tree) → digests_of (old ++ new) ≡ digests_of old ++ digests_of new
digests_append [] new = refl
digests_append (e ∷ old) new = ap (λ ds. (e.0, sha256 e.1) ∷ ds) (digests_append old new)

file_at_digests : (es : Tree) (path : List ℕ) → file_at (digests_of es) path ≡ option_map sha256 (file_at es path)
file_at_digests [] path = refl
file_at_digests (e ∷ es) path = elim (byte_order path e.0) as (λ o. cond (is_eq o) (Some (sha256 e.1)) (file_at (digests_of es) path) ≡ option_map sha256 (cond (is_eq o) (Some e.1) (file_at es path))) [
  | Less ↦ file_at_digests es path
  | Equal ↦ refl
  | Greater ↦ file_at_digests es path
]

same_change : (path : List ℕ) (old new : Option (List ℕ)) → ((a b : List ℕ) → old ≡ Some a → new ≡ Some b → sha256 a ≡ sha256 b → a ≡ b)
    → change_at path (option_map sha256 old) (option_map sha256 new) ≡ change_at path old new
same_change path None None h = refl
same_change path None (Some b) h = refl
same_change path (Some a) None h = refl
same_change path (Some a) (Some b) h =
    ap (λ same. cond same [] (Modified path ∷ [])) (both_ways (bytes_eq (sha256 a) (sha256 b)) (bytes_eq a b)
    (λ same. (bytes_decides a b).1 (h a b refl refl ((bytes_decides (sha256 a) (sha256 b)).0 same)))
    (λ same. (bytes_decides (sha256 a) (sha256 b)).1 (ap sha256 ((bytes_decides a b).0 same))))

flat_digests : (f g : List ℕ → List Change) (es : Tree) → ((path : List ℕ) → f path ≡ g path) → flat_map (λ e. f e.0) (digests_of es) ≡ flat_map (λ e. g e.0) es
flat_digests f g [] same = refl
flat_digests f g (e ∷ es) same = ap (λ c. c ++ flat_map (λ d. f d.0) (digests_of es)) (same e.0) ∙ ap (λ cs. g e.0 ++ cs) (flat_digests f g es same)

-- digests show the changes of the contents, where contents that differ have digests that differ
pub same_changes : (old new : Tree) → AreCollisionFree old new → changes_between (digests_of old) (digests_of new) ≡ changes_between old new
same_changes old new separate =
    ap (flat_map (λ e. change_at e.0 (file_at (digests_of old) e.0) (file_at (digests_of new) e.0))) (ap in_order (sym (digests_append old new)) ∙ sym (in_order_digests (old ++ new)))
    ∙ flat_digests (λ path. change_at path (file_at (digests_of old) path) (file_at (digests_of new) path)) (λ path. change_at path (file_at old path) (file_at new path)) (in_order (old ++ new))
    (λ path.
    ap (λ o. change_at path o (file_at (digests_of new) path)) (file_at_digests old path)
    ∙ ap (λ o. change_at path (option_map sha256 (file_at old path)) o) (file_at_digests new path)
    ∙ same_change path (file_at old path) (file_at new path) (separate path))

below_digests : (k : List ℕ) (es : Tree) → below_all byte_order k (digests_of es) ≡ below_all byte_order k es
below_digests k [] = refl
below_digests k (e ∷ es) = ap (λ b. is_lt (byte_order k e.0) && b) (below_digests k es)

pub sorted_digests : (es : Tree) → is_sorted byte_order (digests_of es) ≡ is_sorted byte_order es
sorted_digests [] = refl
sorted_digests (e ∷ es) = ap (λ b. b && is_sorted byte_order (digests_of es)) (below_digests e.0 es) ∙ ap (λ b. below_all byte_order e.0 es && b) (sorted_digests es)
