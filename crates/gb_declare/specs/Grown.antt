-- The nodes made for an expression of the scripts are in the whole table.
use Rattle.std.specs.Prelude.{◌≡◌, ℕ, ◌<◌, ◌≤◌, Bool, true, false, List, [], ◌∷◌, ◌++◌, length, map}
use Rattle.std.specs.Prelude.{Some, reverse, slice_get}
use Rattle.std.specs.List.{AllByRecursion, flat_map}
use Rattle.std.specs.FinMap.Entries.{find}
use Rattle.gb_core.specs.Lists.{byte_order}
use Rattle.gb_provider.specs.Rules.{OperandsWithin}
use Rattle.gb_provider.specs.declared.expression.Expression.{Expression}
use Rattle.gb_provider.specs.declared.expression.Node.{Node}
use Rattle.gb_registry.specs.Source.{Source}
use Rattle.gb_registry.specs.Tables.{Tables}
use Rattle.gb_registry.specs.Wrong.{found_in_all}
use Rattle.gb_script.specs.Tree.{Tree, Root, PropertyOf, trees_of}
use Rattle.gb_declare.specs.Circles.{is_named}
use Rattle.gb_declare.specs.Partly.{IsPartOf}
use Rattle.gb_declare.specs.Spots.{Spot, Written, Made, parts, spot_of}
use Rattle.gb_declare.specs.Whole.{build_folder, expression_at, number_of}
use Rattle.gb_declare.specs.Site.{Site, given_under, property_node}
use Rattle.gb_declare.specs.Nodes.{Made as These, tree_made, trees_made}
use Rattle.gb_declare.specs.Wrong.{link_faults, making_faults, root_faults}

abbrev pub is_property_root : Root → Bool
is_property_root (PropertyOf name) = true
is_property_root other = false

-- the spot is a property
abbrev pub is_property : Spot → Bool
is_property (Written project root []) = is_property_root root
is_property (Written project root (step ∷ before)) = false
is_property (Made project task name tree) = false

-- the expression has no name, and comes after its operands
abbrev pub IsPlain : {M F Z : Type 0} → ℕ → Expression M F Z → Type 0
IsPlain place e = (is_named (Some e) ≡ false) × OperandsWithin place e

module _ {M F Z : Type 0} (whole : List (Expression M F Z)) where
  -- More expressions, by numbers that agree on those before: they are a part of the whole too, and one of
  -- them has this number in the whole. The new ones have no names, and come after their operands.
  pub record IsGrown (number : ℕ → ℕ) (nodes : List (Expression M F Z)) (target : ℕ)
      (made : These M F Z ℕ) : Type 0 where
    pub numbers : ℕ → ℕ
    pub part : IsPartOf numbers made.nodes whole
    pub agrees : (i : ℕ) → i < length nodes → numbers i ≡ number i
    pub prefix : (rest : List (Expression M F Z)) × (made.nodes ≡ nodes ++ rest)
    pub within : made.place < length made.nodes
    pub exists : numbers made.place ≡ target
    pub plain : (x : ℕ) (e : Expression M F Z) → length nodes ≤ x → slice_get made.nodes x ≡ Some e
        → IsPlain x e

  -- the same for several, each with its number in the whole
  pub record IsRowGrown (number : ℕ → ℕ) (nodes : List (Expression M F Z)) (targets : List ℕ)
      (made : These M F Z (List ℕ)) : Type 0 where
    pub numbers : ℕ → ℕ
    pub part : IsPartOf numbers made.nodes whole
    pub agrees : (i : ℕ) → i < length nodes → numbers i ≡ number i
    pub prefix : (rest : List (Expression M F Z)) × (made.nodes ≡ nodes ++ rest)
    pub within : AllByRecursion (λ i. i < length made.nodes) made.place
    pub exists : map numbers made.place ≡ targets
    pub plain : (x : ℕ) (e : Expression M F Z) → length nodes ≤ x → slice_get made.nodes x ≡ Some e
        → IsPlain x e

module _ {M F Z S A : Type 0} (tables : Tables M F Z S A) (source : Source) (all : List Spot)
    (whole : List (Expression M F Z)) where
  -- unless it is a property, the expression of a spot is in the table under the number of the spot
  abbrev pub IsInTable : Spot → Type 0
  IsInTable spot = is_property spot ≡ false
      → slice_get whole (number_of tables source all spot) ≡ Some (expression_at tables source all spot)

  -- In a table that is a part of the whole the site of a project is right: its build folder, the values given
  -- by name, and each property by its number in the whole.
  pub record IsRight (number : ℕ → ℕ) (nodes : List (Expression M F Z)) (site : Site) : Type 0 where
    pub build : site.build ≡ build_folder site.project
    pub given : (text : List ℕ) → given_under site text ≡ find byte_order text (reverse source.given)
    pub there : (name : List ℕ) (node : Node) → property_node site name ≡ Some node
        → node.number < length nodes
    pub named : (name : List ℕ) (node : Node) → property_node site name ≡ Some node
        → number node.number ≡ number_of tables source all (Written site.project (PropertyOf name) [])

  -- If all parts of an expression without a fault are in the whole, the nodes made for it keep the table a
  -- part of the whole.
  abbrev pub TreesGrow : Type 0
  TreesGrow =
      (number : ℕ → ℕ) (nodes : List (Expression M F Z)) (site : Site) (tree : Tree)
      → IsPartOf number nodes whole
      → IsRight number nodes site → AllByRecursion IsInTable (parts site.project tree)
      → making_faults tables.means tables.functions site tree ≡ []
      → IsGrown whole number nodes (number_of tables source all (spot_of site.project tree))
      (tree_made tables.functions site nodes tree)

  -- The same for expressions in a row, such as those of a task.
  abbrev pub RowsGrow : Type 0
  RowsGrow =
      (number : ℕ → ℕ) (nodes : List (Expression M F Z)) (site : Site) (row : List Tree)
      → IsPartOf number nodes whole
      → IsRight number nodes site → AllByRecursion IsInTable (flat_map (parts site.project) row)
      → found_in_all (root_faults site) (link_faults tables.means tables.functions) (trees_of row) ≡ []
      → IsRowGrown whole number nodes
      (map (λ tree. number_of tables source all (spot_of site.project tree)) row)
      (trees_made tables.functions site (record { nodes = nodes; place = [] }) (trees_of row))
