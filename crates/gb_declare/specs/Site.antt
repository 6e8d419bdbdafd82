-- The position of an expression.
use Rattle.std.specs.Prelude.{ℕ, ◌≡◌, ◌<◌, List, Option, Some}
use Rattle.std.specs.BTreeMap.{is_at}
use Rattle.std.specs.Map.{lookup}
use Rattle.gb_core.specs.Lists.{byte_order}
use Rattle.gb_provider.specs.declared.expression.Node.{Node}
use Rattle.gb_registry.specs.Projects.{Path}
use Rattle.gb_declare.specs.Joined.{Named}
use Rattle.gb_declare.specs.declared.position.Site as handed

-- the project, its build folder, the node of each of its properties, and the values given by name
pub record Site : Type 0 where
  pub project : Path
  pub build : List ℕ
  pub properties : List (Named Node)
  pub given : List (Named (List ℕ))

-- what a borrowed site represents
abbrev pub site_of : handed.Site → Site
site_of g = record {
  project = g.project.now;
  build = g.build.now;
  properties = g.properties.now.entries;
  given = g.given.now.entries;
}

-- the node of a property
abbrev pub property_node : Site → List ℕ → Option Node
property_node site name = lookup (is_at (byte_order name)) site.properties

-- the value that is given under a name
abbrev pub given_under : Site → List ℕ → Option (List ℕ)
given_under site name = lookup (is_at (byte_order name)) site.given

-- the nodes of properties are among the first n
abbrev pub AreThere : Site → ℕ → Type 0
AreThere site n = (name : List ℕ) (node : Node) → property_node site name ≡ Some node → node.number < n
