-- A tree as a row of cells, from which it can be decoded. Proofs distinguish trees by it.
use Rattle.std.specs.Prelude.{◌≡◌, ℕ, true, false, List, [], ◌∷◌, ◌==◌, if◌then◌else◌, refl}
use Rattle.std.specs.Coded.{Coded, code_by, coded×, coded_ℕ, coded_list}
use Rattle.std.proofs.Common.{ap, ◌∙◌}
use Rattle.gb_script.specs.declared.function.Function.{Function}
use Rattle.gb_script.specs.Tree.{Tree, Chain, Root, TextOf, FlagOf, ListOf, PropertyOf, DirOf, FileOf}
use Rattle.gb_script.specs.Tree.{TheBuildDir, GradlePropertyOf, TaskOf, Link, MapBy, FlatMapBy, ZipBy, Else}
use Rattle.gb_script.specs.Tree.{Trees, NoTree, AndTree, Links, NoLink, AndLink}

-- which form this cell has, its text, and the arguments of its function
abbrev pub Cell : Type 0
Cell = ℕ × (List ℕ × List (List ℕ))

abbrev pub plain : ℕ → Cell
plain tag = (tag, ([], []))

abbrev pub of_text : ℕ → List ℕ → Cell
of_text tag t = (tag, (t, []))

abbrev pub of_function : ℕ → Function → Cell
of_function tag f = (tag, (f.name, f.arguments))

abbrev mutual
  pub tree_cells : Tree → List Cell → List Cell
  tree_cells (Chain root links) k = plain 0 ∷ root_cells root (links_cells links k)

  pub root_cells : Root → List Cell → List Cell
  root_cells (TextOf t) k = of_text 1 t ∷ k
  root_cells (FlagOf true) k = plain 2 ∷ k
  root_cells (FlagOf false) k = plain 3 ∷ k
  root_cells (ListOf trees) k = plain 4 ∷ trees_cells trees k
  root_cells (PropertyOf w) k = of_text 5 w ∷ k
  root_cells (DirOf t) k = of_text 6 t ∷ k
  root_cells (FileOf t) k = of_text 7 t ∷ k
  root_cells TheBuildDir k = plain 8 ∷ k
  root_cells (GradlePropertyOf t) k = of_text 9 t ∷ k
  root_cells (TaskOf t) k = of_text 10 t ∷ k

  pub link_cells : Link → List Cell → List Cell
  link_cells (MapBy f) k = of_function 11 f ∷ k
  link_cells (FlatMapBy f) k = of_function 12 f ∷ k
  link_cells (ZipBy tree f) k = of_function 13 f ∷ tree_cells tree k
  link_cells (Else tree) k = plain 14 ∷ tree_cells tree k

  pub trees_cells : Trees → List Cell → List Cell
  trees_cells NoTree k = plain 15 ∷ k
  trees_cells (AndTree tree trees) k = plain 16 ∷ tree_cells tree (trees_cells trees k)

  pub links_cells : Links → List Cell → List Cell
  links_cells NoLink k = plain 17 ∷ k
  links_cells (AndLink link links) k = plain 18 ∷ link_cells link (links_cells links k)

-- what the cells to the right of a place were decoded to
pub data Found : Type 0 where
  Nothing : Found
  ATree : (tree : Tree) (more : Found) → Found
  ARoot : (root : Root) (more : Found) → Found
  ALink : (link : Link) (more : Found) → Found
  SomeTrees : (trees : Trees) (more : Found) → Found
  SomeLinks : (links : Links) (more : Found) → Found

abbrev pub chained : Found → Found
chained (ARoot root (SomeLinks links more)) = ATree (Chain root links) more
chained _ = Nothing

abbrev pub listed : Found → Found
listed (SomeTrees trees more) = ARoot (ListOf trees) more
listed _ = Nothing

abbrev pub zipped : Function → Found → Found
zipped f (ATree tree more) = ALink (ZipBy tree f) more
zipped f _ = Nothing

abbrev pub otherwise : Found → Found
otherwise (ATree tree more) = ALink (Else tree) more
otherwise _ = Nothing

abbrev pub and_tree : Found → Found
and_tree (ATree tree (SomeTrees trees more)) = SomeTrees (AndTree tree trees) more
and_tree _ = Nothing

abbrev pub and_link : Found → Found
and_link (ALink link (SomeLinks links more)) = SomeLinks (AndLink link links) more
and_link _ = Nothing

abbrev pub function_in : Cell → Function
function_in c = record { name = c.1.0; arguments = c.1.1 }

abbrev pub put : Cell → Found → Found
put c more =
    if c.0 == 0 then chained more
    else (if c.0 == 1 then ARoot (TextOf c.1.0) more
    else (if c.0 == 2 then ARoot (FlagOf true) more
    else (if c.0 == 3 then ARoot (FlagOf false) more
    else (if c.0 == 4 then listed more
    else (if c.0 == 5 then ARoot (PropertyOf c.1.0) more
    else (if c.0 == 6 then ARoot (DirOf c.1.0) more
    else (if c.0 == 7 then ARoot (FileOf c.1.0) more
    else (if c.0 == 8 then ARoot TheBuildDir more
    else (if c.0 == 9 then ARoot (GradlePropertyOf c.1.0) more
    else (if c.0 == 10 then ARoot (TaskOf c.1.0) more
    else (if c.0 == 11 then ALink (MapBy (function_in c)) more
    else (if c.0 == 12 then ALink (FlatMapBy (function_in c)) more
    else (if c.0 == 13 then zipped (function_in c) more
    else (if c.0 == 14 then otherwise more
    else (if c.0 == 15 then SomeTrees NoTree more
    else (if c.0 == 16 then and_tree more
    else (if c.0 == 17 then SomeLinks NoLink more
    else and_link more)))))))))))))))))

abbrev pub found : List Cell → Found
found [] = Nothing
found (c ∷ cs) = put c (found cs)

mutual
  pub tree_found : (tree : Tree) (k : List Cell) → found (tree_cells tree k) ≡ ATree tree (found k)
  tree_found (Chain root links) k =
      ap chained (root_found root (links_cells links k) ∙ ap (ARoot root) (links_found links k))

  pub root_found : (root : Root) (k : List Cell) → found (root_cells root k) ≡ ARoot root (found k)
  root_found (TextOf t) k = refl
  root_found (FlagOf true) k = refl
  root_found (FlagOf false) k = refl
  root_found (ListOf trees) k = ap listed (trees_found trees k)
  root_found (PropertyOf w) k = refl
  root_found (DirOf t) k = refl
  root_found (FileOf t) k = refl
  root_found TheBuildDir k = refl
  root_found (GradlePropertyOf t) k = refl
  root_found (TaskOf t) k = refl

  pub link_found : (link : Link) (k : List Cell) → found (link_cells link k) ≡ ALink link (found k)
  link_found (MapBy f) k = refl
  link_found (FlatMapBy f) k = refl
  link_found (ZipBy tree f) k = ap (zipped f) (tree_found tree k)
  link_found (Else tree) k = ap otherwise (tree_found tree k)

  pub trees_found : (trees : Trees) (k : List Cell) → found (trees_cells trees k) ≡ SomeTrees trees (found k)
  trees_found NoTree k = refl
  trees_found (AndTree tree trees) k =
      ap and_tree (tree_found tree (trees_cells trees k) ∙ ap (ATree tree) (trees_found trees k))

  pub links_found : (links : Links) (k : List Cell) → found (links_cells links k) ≡ SomeLinks links (found k)
  links_found NoLink k = refl
  links_found (AndLink link links) k =
      ap and_link (link_found link (links_cells links k) ∙ ap (ALink link) (links_found links k))

abbrev pub first_tree : Found → Tree
first_tree (ATree tree more) = tree
first_tree _ = Chain TheBuildDir NoLink

abbrev pub cell_code : Coded Cell
cell_code = coded× coded_ℕ (coded× (coded_list coded_ℕ) (coded_list (coded_list coded_ℕ)))

abbrev pub tree_code : Coded Tree
tree_code =
    code_by (List Cell) (coded_list cell_code) (λ tree. tree_cells tree [])
    (λ cells. first_tree (found cells)) (λ tree. ap first_tree (tree_found tree []))
