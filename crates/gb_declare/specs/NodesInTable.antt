-- Everything that the scripts declare is in the whole table.
use Rattle.std.specs.Prelude.{◌≡◌, ℕ, List, [], ◌∷◌, ◌++◌, length, None, reverse, zip}
use Rattle.std.specs.BTreeMap.{is_at}
use Rattle.std.specs.FinMap.Entries.{find}
use Rattle.std.specs.List.{AllByRecursion, flat_map}
use Rattle.std.specs.Map.{lookup}
use Rattle.gb_core.specs.Lists.{byte_order}
use Rattle.gb_provider.specs.Meanings.{Meanings}
use Rattle.gb_provider.specs.Rules.{output_place}
use Rattle.gb_provider.specs.Table.{Table}
use Rattle.gb_provider.specs.declared.expression.Expression.{Expression}
use Rattle.gb_provider.specs.declared.fault.Chosen.{Chosen}
use Rattle.gb_report.specs.declared.fault.Fault.{Fault}
use Rattle.gb_registry.specs.Configure.{each_after, statement_faults}
use Rattle.gb_registry.specs.New.{AreNew}
use Rattle.gb_registry.specs.Projects.{Path, project_paths, settings_faults}
use Rattle.gb_registry.specs.Said.{said_by}
use Rattle.gb_registry.specs.Source.{Source}
use Rattle.gb_registry.specs.Tables.{Tables}
use Rattle.gb_script.specs.declared.script.Statement.{Statement}
use Rattle.gb_declare.specs.Joined.{Named}
use Rattle.gb_declare.specs.Whole.{spots, whole}
use Rattle.gb_declare.specs.Complete.{IsLaidOut}
use Rattle.gb_declare.specs.Grown.{IsRight}
use Rattle.gb_declare.specs.Scripts.{build_faults, script_faults, script_made, script_site}
use Rattle.gb_declare.specs.Site.{Site}

module _ {M F Z S : Type 0} (functions : Table M F Z S) (given : List (Named (List ℕ))) where
  -- all expressions after the scripts, one after another
  abbrev pub scripts_made : List (Expression M F Z) → List (Path × List Statement) → List (Expression M F Z)
  scripts_made nodes [] = nodes
  scripts_made nodes (script ∷ scripts) =
      scripts_made (script_made functions script.0 given nodes script.1) scripts

  -- the sites of the expressions of each of their projects
  abbrev pub sites_made : List (Expression M F Z) → List (Path × List Statement) → List Site
  sites_made nodes [] = []
  sites_made nodes (script ∷ scripts) =
      script_site script.0 given (length nodes) script.1
      ∷ sites_made (script_made functions script.0 given nodes script.1) scripts

  -- the faults of the scripts, one after another
  abbrev pub scripts_faults : Meanings M F Z S → List (Expression M F Z) → List (Path × List Statement)
      → List Fault
  scripts_faults means nodes [] = []
  scripts_faults means nodes (script ∷ scripts) =
      script_faults means functions script.0 given nodes script.1
      ++ scripts_faults means (script_made functions script.0 given nodes script.1) scripts

module _ {M F Z S A : Type 0} (tables : Tables M F Z S A) (source : Source) where
  -- Expressions that are laid out, none of them an output, and the sites of these projects.
  pub record AreInTable (nodes : List (Expression M F Z)) (sites : List Site) : Type 0 where
    pub number : ℕ → ℕ
    pub laid : IsLaidOut tables source number nodes
    pub right :
        AllByRecursion (IsRight tables source (spots tables source) (whole tables source) number nodes) sites
    pub plain : (chosen : Chosen) → output_place nodes chosen ≡ None

  -- Scripts whose statements are those of the source, one for each project, in which no statement is at
  -- fault, and the values that are given, the last one of each name.
  pub record AreSaid (scripts : List (Path × List Statement)) (given : List (Named (List ℕ))) : Type 0 where
    pub said : source.said ≡ flat_map said_by scripts
    pub new : AreNew [] scripts
    pub good : each_after (statement_faults tables) [] source.said ≡ []
    pub found : (text : List ℕ)
        → lookup (is_at (byte_order text)) given ≡ find byte_order text (reverse source.given)

  -- The nodes that such scripts make are in the whole table.
  abbrev pub ScriptsInTable : Type 0
  ScriptsInTable =
      (scripts : List (Path × List Statement)) (given : List (Named (List ℕ))) → AreSaid scripts given
      → AreInTable (scripts_made tables.functions given [] scripts)
      (sites_made tables.functions given [] scripts)

  -- Such scripts are at fault only where the build folder of a project is no place.
  abbrev pub ScriptsAreGood : Type 0
  ScriptsAreGood =
      (scripts : List (Path × List Statement)) (given : List (Named (List ℕ))) → AreSaid scripts given
      → scripts_faults tables.functions given tables.means [] scripts
      ≡ flat_map (λ script. build_faults script.0) scripts

-- The build folder of a project is a place, where settings without a fault name the project.
abbrev pub BuildsArePlaces : Type 0
BuildsArePlaces =
    (settings : List (List (List ℕ))) (scripts : List (List Statement)) → settings_faults settings ≡ []
    → flat_map (λ script. build_faults script.0) (zip (project_paths settings) scripts) ≡ []
