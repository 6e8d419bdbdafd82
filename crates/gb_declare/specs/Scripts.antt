-- The effect of the script of a project on its properties.
use Rattle.std.specs.Prelude.{ℕ, List, [], ◌∷◌, ◌++◌, filter_map, length, if◌then◌else◌}
use Rattle.gb_core.specs.Place.{is_place}
use Rattle.gb_provider.specs.Meanings.{Meanings}
use Rattle.gb_provider.specs.Table.{Table}
use Rattle.gb_provider.specs.declared.expression.Expression.{Expression}
use Rattle.gb_report.specs.declared.fault.Fault.{Fault}
use Rattle.gb_report.specs.declared.fault.Fault.TheVariants as faults
use Rattle.gb_registry.specs.Projects.{Path}
use Rattle.gb_registry.specs.Said.{declared_property}
use Rattle.gb_script.specs.declared.script.Statement.{Statement}
use Rattle.gb_declare.specs.Joined.{Named}
use Rattle.gb_declare.specs.Whole.{build_folder}
use Rattle.gb_declare.specs.declared.script_nodes.Laid.{Laid}
use Rattle.gb_declare.specs.Site.{Site}
use Rattle.gb_declare.specs.Statements.{named_from, properties_made, statements_faults, statements_made}

-- the build folder of the project is no place
abbrev pub build_faults : Path → List Fault
build_faults project = if is_place (build_folder project) then [] else faults.BadProjectPlace project ∷ []

-- the site of the expressions of a project, once its properties have nodes
abbrev pub laid_site : Path → Laid → List (Named (List ℕ)) → Site
laid_site project laid given =
    record { project = project; build = laid.build; properties = laid.properties.entries; given = given }

-- the same by its script, its properties numbered from one number on
abbrev pub script_site : Path → List (Named (List ℕ)) → ℕ → List Statement → Site
script_site project given n statements = record {
  project = project;
  build = build_folder project;
  properties = named_from n [] (filter_map declared_property statements);
  given = given;
}

module _ {M F Z S : Type 0} (functions : Table M F Z S) (project : Path) (given : List (Named (List ℕ)))
    (nodes : List (Expression M F Z)) (statements : List Statement) where
  abbrev pub site_in : Site
  site_in = script_site project given (length nodes) statements

  -- with the properties that it declares
  abbrev pub with_properties : List (Expression M F Z)
  with_properties = properties_made project nodes (filter_map declared_property statements)

  -- All expressions after a script: its properties, and then statement by statement.
  abbrev pub script_made : List (Expression M F Z)
  script_made = statements_made functions site_in with_properties statements

-- the faults of a script, in the order in which it is made
abbrev pub script_faults : {M F Z S : Type 0} → Meanings M F Z S → Table M F Z S → Path
    → List (Named (List ℕ)) → List (Expression M F Z) → List Statement → List Fault
script_faults means functions project given nodes statements =
    build_faults project
    ++ statements_faults means functions (site_in functions project given nodes statements)
    (with_properties functions project given nodes statements) statements
