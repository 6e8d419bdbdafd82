-- The expression from which a value is made, as a script writes it.
use Rattle.std.specs.Prelude.{ℕ, ◌+◌, Bool, List, [], ◌∷◌}
use Rattle.gb_script.specs.declared.function.Function.{Function}

mutual
  -- a source, and its steps in order
  pub data Tree : Type 0 where
    Chain : (root : Root) (links : Links) → Tree

  pub data Root : Type 0 where
    TextOf : (t : List ℕ) → Root
    FlagOf : (b : Bool) → Root
    ListOf : (trees : Trees) → Root
    PropertyOf : (w : List ℕ) → Root
    DirOf : (t : List ℕ) → Root
    FileOf : (t : List ℕ) → Root
    TheBuildDir : Root
    GradlePropertyOf : (t : List ℕ) → Root
    TaskOf : (t : List ℕ) → Root

  pub data Link : Type 0 where
    MapBy : (f : Function) → Link
    FlatMapBy : (f : Function) → Link
    ZipBy : (tree : Tree) (f : Function) → Link
    Else : (tree : Tree) → Link

  pub data Trees : Type 0 where
    NoTree : Trees
    AndTree : (tree : Tree) (trees : Trees) → Trees

  pub data Links : Type 0 where
    NoLink : Links
    AndLink : (link : Link) (links : Links) → Links

abbrev pub trees_of : List Tree → Trees
trees_of [] = NoTree
trees_of (t ∷ ts) = AndTree t (trees_of ts)

abbrev pub links_of : List Link → Links
links_of [] = NoLink
links_of (s ∷ ss) = AndLink s (links_of ss)

abbrev pub root : Tree → Root
root (Chain r ls) = r

abbrev pub links : Tree → Links
links (Chain r ls) = ls

-- how many chains there are
abbrev mutual
  pub tree_size : Tree → ℕ
  tree_size (Chain root links) = root_size root + links_size links + 1

  pub root_size : Root → ℕ
  root_size (TextOf t) = 0
  root_size (FlagOf b) = 0
  root_size (ListOf trees) = trees_size trees
  root_size (PropertyOf w) = 0
  root_size (DirOf t) = 0
  root_size (FileOf t) = 0
  root_size TheBuildDir = 0
  root_size (GradlePropertyOf t) = 0
  root_size (TaskOf t) = 0

  pub trees_size : Trees → ℕ
  trees_size NoTree = 0
  trees_size (AndTree tree trees) = tree_size tree + trees_size trees

  pub links_size : Links → ℕ
  links_size NoLink = 0
  links_size (AndLink link links) = link_size link + links_size links

  pub link_size : Link → ℕ
  link_size (MapBy f) = 0
  link_size (FlatMapBy f) = 0
  link_size (ZipBy tree f) = tree_size tree
  link_size (Else tree) = tree_size tree
