-- The positions of expressions in scripts.
use Rattle.std.specs.Prelude.{ℕ, ◌==◌, Bool, false, ◌&&◌, List, [], ◌∷◌, ◌++◌, bytes_eq}
use Rattle.std.specs.Cmp.Lexicographic.{pointwise}
use Rattle.gb_script.specs.Coding.{Cell, tree_cells}
use Rattle.gb_script.specs.Tree.{Tree, Chain, Root, TextOf, FlagOf, ListOf, PropertyOf, DirOf, FileOf}
use Rattle.gb_script.specs.Tree.{TheBuildDir, GradlePropertyOf, TaskOf, Link, MapBy, FlatMapBy, ZipBy, Else}
use Rattle.gb_script.specs.Tree.{Trees, NoTree, AndTree, Links, NoLink, AndLink, links_of}
use Rattle.gb_registry.specs.Projects.{Path}

-- An expression whose value is requested: in a project's script a source followed by its steps, the last one
-- first; or an output of a task, and the expression of its place.
pub data Spot : Type 0 where
  Written : (project : Path) (root : Root) (steps : List Link) → Spot
  Made : (project task : Path) (name : List ℕ) (tree : Tree) → Spot

-- the steps of a chain, the last one first, followed by others
abbrev pub onto : List Link → Links → List Link
onto steps NoLink = steps
onto steps (AndLink link links) = onto (link ∷ steps) links

abbrev pub spot_of : Path → Tree → Spot
spot_of project (Chain root links) = Written project root (onto [] links)

module _ (project : Path) where
  -- the parts of an expression: its source with none of its steps, with one, and so on, and the parts of its
  -- operands
  abbrev mutual
    pub parts : Tree → List Spot
    parts (Chain root links) = Written project root [] ∷ root_parts root ++ links_parts root [] links

    pub root_parts : Root → List Spot
    root_parts (ListOf trees) = trees_parts trees
    root_parts (TextOf t) = []
    root_parts (FlagOf b) = []
    root_parts (PropertyOf w) = []
    root_parts (DirOf t) = []
    root_parts (FileOf t) = []
    root_parts TheBuildDir = []
    root_parts (GradlePropertyOf t) = []
    root_parts (TaskOf t) = []

    pub trees_parts : Trees → List Spot
    trees_parts NoTree = []
    trees_parts (AndTree tree trees) = parts tree ++ trees_parts trees

    pub links_parts : Root → List Link → Links → List Spot
    links_parts root before NoLink = []
    links_parts root before (AndLink link links) =
        Written project root (link ∷ before) ∷ link_parts link ++ links_parts root (link ∷ before) links

    pub link_parts : Link → List Spot
    link_parts (MapBy f) = []
    link_parts (FlatMapBy f) = []
    link_parts (ZipBy tree f) = parts tree
    link_parts (Else tree) = parts tree

-- ---- Whether two are the same

abbrev pub is_cell : Cell → Cell → Bool
is_cell a b = (a.0 == b.0) && bytes_eq a.1.0 b.1.0 && pointwise bytes_eq a.1.1 b.1.1

abbrev pub is_tree : Tree → Tree → Bool
is_tree a b = pointwise is_cell (tree_cells a []) (tree_cells b [])

abbrev pub is_spot : Spot → Spot → Bool
is_spot (Written project root steps) (Written project' root' steps') =
    bytes_eq project project' && is_tree (Chain root (links_of steps)) (Chain root' (links_of steps'))
is_spot (Made project task name tree) (Made project' task' name' tree') =
    bytes_eq task task' && bytes_eq name name'
is_spot (Written project root steps) (Made project' task name tree) = false
is_spot (Made project task name tree) (Written project' root steps) = false
