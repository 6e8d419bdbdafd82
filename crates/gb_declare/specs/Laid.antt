-- The properties of a project are in the whole table, once their nodes are made.
use Rattle.std.specs.Prelude.{◌≡◌, ℕ, ◌<◌, List, [], filter_map, length, Some, reverse, slice_get}
use Rattle.std.specs.BTreeMap.{is_at}
use Rattle.std.specs.Map.{lookup}
use Rattle.std.specs.FinMap.Entries.{find}
use Rattle.gb_core.specs.Lists.{byte_order}
use Rattle.gb_provider.specs.declared.expression.Expression.{Expression}
use Rattle.gb_registry.specs.Projects.{Path}
use Rattle.gb_registry.specs.Said.{declared_property}
use Rattle.gb_registry.specs.Source.{Source}
use Rattle.gb_registry.specs.Tables.{Tables}
use Rattle.gb_script.specs.Tree.{PropertyOf}
use Rattle.gb_script.specs.declared.script.Statement.{Statement}
use Rattle.gb_declare.specs.Joined.{Named}
use Rattle.gb_declare.specs.Partly.{IsPartOf}
use Rattle.gb_declare.specs.Spots.{Spot, Written}
use Rattle.gb_declare.specs.Whole.{number_of}
use Rattle.gb_declare.specs.Grown.{IsRight}
use Rattle.gb_declare.specs.Scripts.{script_site}
use Rattle.gb_declare.specs.Statements.{properties_made, unset_property}

module _ {M F Z S A : Type 0} (tables : Tables M F Z S A) (source : Source) (all : List Spot)
    (whole : List (Expression M F Z)) where
  -- a property that nothing sets is in the table under the number of each of these names
  abbrev pub AreUnset : Path → List (List ℕ) → Type 0
  AreUnset project names =
      (k : ℕ) (name : List ℕ) → slice_get names k ≡ Some name
      → slice_get whole (number_of tables source all (Written project (PropertyOf name) []))
      ≡ Some (unset_property project name)

  -- The properties of a script follow other expressions of a part: the table is still a part, and the site of
  -- the expressions of the project is right.
  pub record IsLaid (number : ℕ → ℕ) (nodes : List (Expression M F Z)) (project : Path)
      (given : List (Named (List ℕ))) (statements : List Statement) : Type 0 where
    pub numbers : ℕ → ℕ
    pub part : IsPartOf numbers (properties_made project nodes (filter_map declared_property statements))
        whole
    pub agrees : (i : ℕ) → i < length nodes → numbers i ≡ number i
    pub right : IsRight tables source all whole numbers
        (properties_made project nodes (filter_map declared_property statements))
        (script_site project given (length nodes) statements)

  -- The unset properties of a script in the whole are laid, where the values given by name are right.
  abbrev pub ScriptsAreLaid : Type 0
  ScriptsAreLaid =
      (number : ℕ → ℕ) (nodes : List (Expression M F Z)) (project : Path) (given : List (Named (List ℕ)))
      (statements : List Statement) → IsPartOf number nodes whole
      → ((text : List ℕ)
      → lookup (is_at (byte_order text)) given ≡ find byte_order text (reverse source.given))
      → AreUnset project (filter_map declared_property statements)
      → IsLaid number nodes project given statements
