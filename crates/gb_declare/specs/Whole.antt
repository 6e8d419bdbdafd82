-- All expressions of the scripts as one table: the table that `get` and `producers` query.
use Rattle.std.specs.Prelude.{ℕ, List, [], ◌∷◌, ◌++◌, map, fold, reverse, Option, Some, None, Result, Ok}
use Rattle.std.specs.Prelude.{Err, option_map, codes}
use Rattle.std.specs.List.{flat_map, list_any, position_or_len}
use Rattle.std.specs.Option.{option_to_list}
use Rattle.std.specs.FinMap.Entries.{find}
use Rattle.gb_core.specs.Place.{joined as place_in}
use Rattle.gb_core.specs.declared.value.Value.TheVariants as values
use Rattle.gb_provider.specs.Called.{Called}
use Rattle.gb_core.specs.Lists.{byte_order}
use Rattle.gb_provider.specs.Table.{map_named, flat_map_named, zip_named}
use Rattle.gb_provider.specs.declared.expression.Expression.{Expression}
use Rattle.gb_provider.specs.declared.expression.Expression.TheVariants.{Constant, OfProperty, OfOutput}
use Rattle.gb_provider.specs.declared.expression.Expression.TheVariants.{Listed, Mapped, FlatMapped, Zipped}
use Rattle.gb_provider.specs.declared.expression.Expression.TheVariants.{OrElse}
use Rattle.gb_provider.specs.declared.expression.Setting.TheVariants.{Followed}
use Rattle.gb_script.specs.Tree.{Tree, Root, TextOf, FlagOf, ListOf, PropertyOf, DirOf, FileOf, TheBuildDir}
use Rattle.gb_script.specs.Tree.{GradlePropertyOf, TaskOf, Link, MapBy, FlatMapBy, ZipBy, Else}
use Rattle.gb_script.specs.Tree.{Trees, NoTree, AndTree}
use Rattle.gb_script.specs.declared.function.Function.{Function}
use Rattle.gb_script.specs.declared.script.Statement.{Statement}
use Rattle.gb_script.specs.declared.script.Statement.TheVariants as statements
use Rattle.gb_report.specs.declared.fault.Fault.{Fault}
use Rattle.gb_registry.specs.Configure.{values_of, finalizes}
use Rattle.gb_declare.specs.Declaring.{declared}
use Rattle.gb_declare.specs.Joined as tasks
use Rattle.gb_registry.specs.Projects.{Path, folder_of, absolute}
use Rattle.gb_registry.specs.Said.{Said, Registered, script_of, set_after, convention_after, tasks_of}
use Rattle.gb_declare.specs.Spots.{Spot, Written, Made, spot_of, parts, is_spot}
use Rattle.gb_registry.specs.Source.{Source}
use Rattle.gb_registry.specs.Tables.{Tables}

-- ---- Which expressions there are

-- a property that a statement declares, and what it assigns to a property
abbrev pub statement_spots : Said → List Spot
statement_spots s = property_spots s.statement ++ flat_map (parts s.project) (values_of s.statement)
  where
    property_spots : Statement → List Spot
    property_spots (statements.Property name) = Written s.project (PropertyOf name) [] ∷ []
    property_spots other = []

-- the expressions of a task, in the order in which they are evaluated
abbrev pub trees_of : tasks.Joined → List Tree
trees_of task =
    option_to_list task.enabled
    ++ map (λ condition. condition.value) (task.only_if ++ task.up_to_date_when)
    ++ map (λ value. value.1) task.values
    ++ flat_map (λ files. files.1.from) task.files
    ++ map (λ output. output.1.1) task.outputs
    ++ flat_map (λ call. call.arguments) task.actions

abbrev pub output_spots : Registered → tasks.Joined → List Spot
output_spots at task = map (λ output. Made at.project at.path output.0 output.1.1) task.outputs

-- the expressions of a task that is declared; a task at fault has none
abbrev pub task_spots : Registered → Result tasks.Joined Fault → List Spot
task_spots at (Ok task) = flat_map (parts at.project) (trees_of task) ++ output_spots at task
task_spots at (Err fault) = []

-- ---- What they are

-- always absent
abbrev pub absent : {M F Z : Type 0} → Expression M F Z
absent = Constant None

-- the last value that is given under a name
abbrev pub given_value : {M F Z : Type 0} → Option (List ℕ) → Expression M F Z
given_value (Some text) = Constant (Some (values.Text text))
given_value None = absent

-- the build folder of a project
abbrev pub build_folder : Path → List ℕ
build_folder project = place_in (folder_of project) (codes "build")

abbrev pub if_found : {M F Z X : Type 0} → (Called X → Expression M F Z) → Function → Option X
    → Expression M F Z
if_found step f (Some stored) = step (record { name = f.name; function = stored; arguments = f.arguments })
if_found step f None = absent

module _ {M F Z S A : Type 0} (tables : Tables M F Z S A) (source : Source) where
  abbrev pub spots : List Spot
  spots =
      flat_map statement_spots source.said
      ++ flat_map (λ task. task_spots task (declared tables source.names source.said task))
      (tasks_of source.said)

  module _ (spots : List Spot) where
    -- the number of an expression: its first position
    abbrev pub number_of : Spot → ℕ
    number_of spot = position_or_len (is_spot spot) spots

    abbrev pub numbers_of : Path → Trees → List ℕ
    numbers_of project NoTree = []
    numbers_of project (AndTree tree trees) = number_of (spot_of project tree) ∷ numbers_of project trees

    -- a property, as all statements of its project's script leave it
    abbrev pub property_of : Path → List ℕ → Expression M F Z
    property_of project name =
        let script = script_of source.said project in
        OfProperty (record {
          project = project;
          name = name;
          setting =
              option_map (λ tree. Followed (number_of (spot_of project tree)))
              (fold (set_after name) None script);
          convention =
              option_map (λ tree. number_of (spot_of project tree))
              (fold (convention_after name) None script);
          is_final = list_any (finalizes name) script;
        })

    abbrev pub root_expression : Path → Root → Expression M F Z
    root_expression project (TextOf text) = Constant (Some (values.Text text))
    root_expression project (FlagOf flag) = Constant (Some (values.Flag flag))
    root_expression project (ListOf trees) = Listed (numbers_of project trees)
    root_expression project (PropertyOf name) = property_of project name
    root_expression project (DirOf text) = Constant (Some (values.Place (place_in (folder_of project) text)))
    root_expression project (FileOf text) = Constant (Some (values.Place (place_in (folder_of project) text)))
    root_expression project TheBuildDir = Constant (Some (values.Place (build_folder project)))
    root_expression project (GradlePropertyOf text) =
        given_value (find byte_order text (reverse source.given))
    root_expression project (TaskOf text) = Constant (Some (values.Task (absolute project text)))

    -- a step after the expression of this number
    abbrev pub step_expression : Path → ℕ → Link → Expression M F Z
    step_expression project before (MapBy f) = if_found (Mapped before) f (map_named tables.functions f.name)
    step_expression project before (FlatMapBy f) =
        if_found (FlatMapped before) f (flat_map_named tables.functions f.name)
    step_expression project before (ZipBy tree f) =
        if_found (Zipped before (number_of (spot_of project tree))) f (zip_named tables.functions f.name)
    step_expression project before (Else tree) = OrElse before (number_of (spot_of project tree))

    abbrev pub expression_at : Spot → Expression M F Z
    expression_at (Written project root []) = root_expression project root
    expression_at (Written project root (step ∷ before)) =
        step_expression project (number_of (Written project root before)) step
    expression_at (Made project task name tree) = OfOutput (record {
      chosen = record { task = task; output = name };
      declared = Some (number_of (spot_of project tree));
    })

    abbrev pub table_of : List (Expression M F Z)
    table_of = map expression_at spots

  -- The whole table: an entry for each expression.
  abbrev pub whole : List (Expression M F Z)
  whole = table_of spots
