-- At the first position of a spot the same spot is found.
use Rattle.std.proofs.Common.{◌≡◌, ℕ, zero, suc, Bool, true, false, ◌&&◌, cond, List, [], ◌∷◌, refl, sym, ap, subst, ◌∙◌}
use Rattle.std.proofs.lemmas.Bool.{eqb-true, eq-eqb}
use Rattle.std.proofs.lemmas.List.Folds.{find_at}
use Rattle.std.proofs.lemmas.Option.{slice_get-map}
use Rattle.std.proofs.lemmas.Slice.Eq.{bytes_eq-Decides, slice_eq-Decides}
use Rattle.std.specs.Bool.{Decides}
use Rattle.std.specs.Cmp.Derive.{both_true}
use Rattle.std.specs.Cmp.Lexicographic.{pointwise}
use Rattle.std.specs.Prelude.{◌==◌, Option, Some, slice_get, option_map, find, bytes_eq}
use Rattle.std.specs.List.{position_or_len}
use Rattle.gb_script.specs.Coding.{Cell, found, first_tree, tree_cells, tree_found}
use Rattle.gb_script.specs.Tree.{Tree, Chain, Root, Link, Links, NoLink, AndLink, links_of, root, links}
use Rattle.gb_registry.specs.Projects.{Path}
use Rattle.gb_registry.specs.Source.{Source}
use Rattle.gb_declare.specs.Spots.{Spot, Written, Made, is_cell, is_tree, is_spot}
use Rattle.gb_declare.specs.InTable.{ExpressionsInTable}
use Rattle.gb_registry.specs.Tables.{Tables}
use Rattle.gb_declare.specs.Whole.{spots, expression_at}

first_true : (a b : Bool) → (a && b) ≡ true → a ≡ true
first_true true b e = refl
first_true false b e = cc

second_true : (a b : Bool) → (a && b) ≡ true → b ≡ true
second_true true b e = e
second_true false b e = cc

texts_decide : (a b : List (List ℕ)) → Decides (pointwise bytes_eq a b) (a ≡ b)
texts_decide a b = slice_eq-Decides bytes_eq-Decides a b (pointwise bytes_eq a b) refl

cell_same : (a b : Cell) → is_cell a b ≡ true → a ≡ b
cell_same (n, (t, ts)) (m, (u, us)) e =
    let prefix = first_true ((n == m) && bytes_eq t u) (pointwise bytes_eq ts us) e in
    let tags = eqb-true n m (first_true (n == m) (bytes_eq t u) prefix) in
    let texts = (bytes_eq-Decides t u).0 (second_true (n == m) (bytes_eq t u) prefix) in
    let more = (texts_decide ts us).0 (second_true ((n == m) && bytes_eq t u) (pointwise bytes_eq ts us) e) in
    ap (λ x. (x, (t, ts))) tags ∙ ap (λ x. (m, (x, ts))) texts ∙ ap (λ x. (m, (u, x))) more

cell_itself : (a : Cell) → is_cell a a ≡ true
cell_itself (n, (t, ts)) = both_true (both_true (eq-eqb n n refl) ((bytes_eq-Decides t t).1 refl)) ((texts_decide ts ts).1 refl)

cell_decides : (a b : Cell) → Decides (is_cell a b) (a ≡ b)
cell_decides a b = (cell_same a b, λ same. subst (λ c. is_cell a c ≡ true) same (cell_itself a))

cells_decide : (a b : List Cell) → Decides (pointwise is_cell a b) (a ≡ b)
cells_decide a b = slice_eq-Decides cell_decides a b (pointwise is_cell a b) refl

tree_back : (t : Tree) → first_tree (found (tree_cells t [])) ≡ t
tree_back t = ap first_tree (tree_found t [])

tree_same : (a b : Tree) → is_tree a b ≡ true → a ≡ b
tree_same a b e = sym (tree_back a) ∙ ap (λ cells. first_tree (found cells)) ((cells_decide (tree_cells a []) (tree_cells b [])).0 e) ∙ tree_back b

list_of : Links → List Link
list_of NoLink = []
list_of (AndLink link links) = link ∷ list_of links

links_back : (steps : List Link) → list_of (links_of steps) ≡ steps
unfolding list_of
links_back [] = refl
links_back (step ∷ steps) = ap (λ s. step ∷ s) (links_back steps)

written_same : (project : Path) (root' : Root) (steps : List Link) (other : Spot) → is_spot (Written project root' steps) other ≡ true → Written project root' steps ≡ other
written_same project root' steps (Written project' root'' steps') e =
    let paths = (bytes_eq-Decides project project').0 (first_true (bytes_eq project project') (is_tree (Chain root' (links_of steps)) (Chain root'' (links_of steps'))) e) in
    let trees = tree_same (Chain root' (links_of steps)) (Chain root'' (links_of steps')) (second_true (bytes_eq project project') (is_tree (Chain root' (links_of steps)) (Chain root'' (links_of steps'))) e) in
    let rows : steps ≡ steps' = sym (links_back steps) ∙ ap (λ t. list_of (links t)) trees ∙ links_back steps' in
    ap (λ p. Written p root' steps) paths ∙ ap (λ r. Written project' r steps) (ap root trees) ∙ ap (λ s. Written project' root'' s) rows
written_same project root' steps (Made project' task name tree) e = cc

written_itself : (project : Path) (root' : Root) (steps : List Link) → is_spot (Written project root' steps) (Written project root' steps) ≡ true
written_itself project root' steps =
    both_true ((bytes_eq-Decides project project).1 refl) ((cells_decide (tree_cells (Chain root' (links_of steps)) []) (tree_cells (Chain root' (links_of steps)) [])).1 refl)

-- an element that passes is in the list, so a first one is found
found_by : {X : Type 0} (p : X → Bool) (y x : X) (more : Option X) (b : Bool) → p y ≡ b → ((b ≡ false) → (z : X) × (more ≡ Some z) × (p z ≡ true)) → (z : X) × (cond b (Some y) more ≡ Some z) × (p z ≡ true)
found_by p y x more true is rest = (y, refl, is)
found_by p y x more false is rest = rest refl

first_such : {X : Type 0} (p : X → Bool) (xs : List X) (k : ℕ) (x : X) → slice_get xs k ≡ Some x → p x ≡ true → (z : X) × (find p xs ≡ Some z) × (p z ≡ true)
first_such p [] k x is e = cc
first_such p (y ∷ ys) zero x is e =
    let same : x ≡ y = cc in
    let passes : p y ≡ true = ap p (sym same) ∙ e in
    found_by p y x (find p ys) (p y) refl (λ fails. (let clash : true ≡ false = sym passes ∙ fails in cc))
first_such p (y ∷ ys) (suc k) x is e = found_by p y x (find p ys) (p y) refl (λ fails. first_such p ys k x is e)

-- an expression that is one of these is at the position of the first one that is the same
pub spot_in_table : (all : List Spot) (project : Path) (root' : Root) (steps : List Link) (place : ℕ) → slice_get all place ≡ Some (Written project root' steps)
    → slice_get all (position_or_len (is_spot (Written project root' steps)) all) ≡ Some (Written project root' steps)
spot_in_table all project root' steps place is =
    let spot = Written project root' steps in
    let first = first_such (is_spot spot) all place spot is (written_itself project root' steps) in
    sym (find_at (is_spot spot) all) ∙ first.1 ∙ ap Some (sym (written_same project root' steps first.0 first.2))

pub expressions_in_table : {M F Z S A : Type 0} (tables : Tables M F Z S A) (source : Source) → ExpressionsInTable tables source
expressions_in_table tables source project root' steps place is =
    let all = spots tables source in
    slice_get-map (expression_at tables source all) all (position_or_len (is_spot (Written project root' steps)) all)
    ∙ ap (option_map (expression_at tables source all)) (spot_in_table all project root' steps place is)
