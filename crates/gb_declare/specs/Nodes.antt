-- The nodes that are made for an expression, one after another.
use Rattle.std.specs.Prelude.{ℕ, ◌≡◌, ◌<◌, ◌≤◌, List, [], ◌∷◌, ◌++◌, length, All, Option, Some, None}
use Rattle.gb_core.specs.Place.{joined as place_in}
use Rattle.gb_core.specs.declared.value.Value.{Value}
use Rattle.gb_core.specs.declared.value.Value.TheVariants as values
use Rattle.gb_provider.specs.Answers.{Held}
use Rattle.gb_provider.specs.Rules.{numbers_of}
use Rattle.gb_provider.specs.Table.{Table, map_named, flat_map_named, zip_named}
use Rattle.gb_provider.specs.declared.expression.Expression.{Expression}
use Rattle.gb_provider.specs.declared.expression.Expression.TheVariants.{Constant, Listed, Mapped, FlatMapped}
use Rattle.gb_provider.specs.declared.expression.Expression.TheVariants.{Zipped, OrElse}
use Rattle.gb_provider.specs.declared.expression.Node.{Node}
use Rattle.gb_script.specs.Tree.{Tree, Chain, Root, TextOf, FlagOf, ListOf, PropertyOf, DirOf, FileOf}
use Rattle.gb_script.specs.Tree.{TheBuildDir, GradlePropertyOf, TaskOf, Link, MapBy, FlatMapBy, ZipBy, Else}
use Rattle.gb_script.specs.Tree.{Trees, NoTree, AndTree, Links, NoLink, AndLink}
use Rattle.gb_script.specs.declared.function.Function.{Function}
use Rattle.gb_registry.specs.Projects.{absolute, folder_of}
use Rattle.gb_declare.specs.Whole.{if_found}
use Rattle.gb_declare.specs.Site.{Site, property_node, given_under}

-- all expressions of a table, and the number of one of them, or the numbers of several
pub record Made (M F Z X : Type 0) : Type 0 where
  pub nodes : List (Expression M F Z)
  pub place : X

-- ---- Sources

abbrev pub as_text : Option (List ℕ) → Option Value
as_text (Some text) = Some (values.Text text)
as_text None = None

-- the value of a source that awaits nothing: a value, or nothing
abbrev pub constant_of : Site → Root → Option Value
constant_of site (TextOf text) = Some (values.Text text)
constant_of site (FlagOf flag) = Some (values.Flag flag)
constant_of site (ListOf trees) = None
constant_of site (PropertyOf name) = None
constant_of site (DirOf text) = Some (values.Place (place_in (folder_of site.project) text))
constant_of site (FileOf text) = Some (values.Place (place_in (folder_of site.project) text))
constant_of site TheBuildDir = Some (values.Place site.build)
constant_of site (GradlePropertyOf text) = as_text (given_under site text)
constant_of site (TaskOf text) = Some (values.Task (absolute site.project text))

abbrev pub number_in : Option Node → ℕ
number_in (Some node) = node.number
number_in None = 0

module _ {M F Z : Type 0} where
  -- one expression after the others
  abbrev pub added : List (Expression M F Z) → Expression M F Z → Made M F Z ℕ
  added nodes e = record { nodes = nodes ++ e ∷ []; place = length nodes }

  -- a source that is no list: a property has its node already, and any other is a constant
  abbrev pub plain_made : Site → List (Expression M F Z) → Root → Made M F Z ℕ
  plain_made site nodes (PropertyOf name) =
      record { nodes = nodes; place = number_in (property_node site name) }
  plain_made site nodes other = added nodes (Constant (constant_of site other))

-- ---- Expressions

module _ {M F Z S : Type 0} (functions : Table M F Z S) where
  -- the step after its operand
  abbrev pub zip_made : ℕ → Function → Made M F Z ℕ → Made M F Z ℕ
  zip_made left f right =
      added right.nodes (if_found (Zipped left right.place) f (zip_named functions f.name))

  abbrev pub else_made : ℕ → Made M F Z ℕ → Made M F Z ℕ
  else_made left right = added right.nodes (OrElse left right.place)

-- the list after its elements
abbrev pub list_made : {M F Z : Type 0} → Made M F Z (List ℕ) → Made M F Z ℕ
list_made row = added row.nodes (Listed row.place)

-- one element more
abbrev pub following : {M F Z : Type 0} → List ℕ → Made M F Z ℕ → Made M F Z (List ℕ)
following numbers element = record { nodes = element.nodes; place = numbers ++ element.place ∷ [] }

module _ {M F Z S : Type 0} (functions : Table M F Z S) (site : Site) where
  abbrev mutual
    -- A source, and then step by step, an operand before its step; for a list, its elements from the left.
    pub tree_made : List (Expression M F Z) → Tree → Made M F Z ℕ
    tree_made nodes (Chain root links) = links_made (root_made nodes root) links

    pub root_made : List (Expression M F Z) → Root → Made M F Z ℕ
    root_made nodes (ListOf trees) = list_made (trees_made (record { nodes = nodes; place = [] }) trees)
    root_made nodes (TextOf t) = plain_made site nodes (TextOf t)
    root_made nodes (FlagOf b) = plain_made site nodes (FlagOf b)
    root_made nodes (PropertyOf w) = plain_made site nodes (PropertyOf w)
    root_made nodes (DirOf t) = plain_made site nodes (DirOf t)
    root_made nodes (FileOf t) = plain_made site nodes (FileOf t)
    root_made nodes TheBuildDir = plain_made site nodes TheBuildDir
    root_made nodes (GradlePropertyOf t) = plain_made site nodes (GradlePropertyOf t)
    root_made nodes (TaskOf t) = plain_made site nodes (TaskOf t)

    -- these elements after others
    pub trees_made : Made M F Z (List ℕ) → Trees → Made M F Z (List ℕ)
    trees_made row NoTree = row
    trees_made row (AndTree tree trees) = trees_made (following row.place (tree_made row.nodes tree)) trees

    -- steps after an expression
    pub links_made : Made M F Z ℕ → Links → Made M F Z ℕ
    links_made made NoLink = made
    links_made made (AndLink link links) = links_made (link_made made.nodes made.place link) links

    pub link_made : List (Expression M F Z) → ℕ → Link → Made M F Z ℕ
    link_made nodes place (MapBy f) = added nodes (if_found (Mapped place) f (map_named functions f.name))
    link_made nodes place (FlatMapBy f) =
        added nodes (if_found (FlatMapped place) f (flat_map_named functions f.name))
    link_made nodes place (ZipBy tree f) = zip_made functions place f (tree_made nodes tree)
    link_made nodes place (Else tree) = else_made functions place (tree_made nodes tree)

-- ---- What a call adds

module _ {M F Z S : Type 0} (old new : Held M F Z S) where
  -- the table of functions is unchanged, and the new nodes and the number are these
  pub record IsMade (made : Made M F Z ℕ) (node : Node) : Type 0 where
    pub table : new.table ≡ old.table
    pub nodes : new.nodes ≡ made.nodes
    pub number : node.number ≡ made.place
    pub within : node.number < length new.nodes
    pub grown : length old.nodes ≤ length new.nodes

  -- the same for several
  pub record AreMade (made : Made M F Z (List ℕ)) (row : List Node) : Type 0 where
    pub table : new.table ≡ old.table
    pub nodes : new.nodes ≡ made.nodes
    pub numbers : numbers_of row ≡ made.place
    pub within : All (λ node. node.number < length new.nodes) row
    pub grown : length old.nodes ≤ length new.nodes
