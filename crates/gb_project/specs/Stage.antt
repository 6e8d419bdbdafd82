-- Tasks declared one after another, with the nodes of their expressions.
use Rattle.std.specs.Prelude.{◌≡◌, ℕ, List, [], ◌∷◌, ◌++◌, ◌+◌, drop, take, filter_map, fold, length, Option}
use Rattle.std.specs.Prelude.{Some, None, Result, Ok, Err, slice_set}
use Rattle.std.specs.List.{AllByRecursion, flat_map}
use Rattle.std.specs.Option.{option_to_list}
use Rattle.gb_declare.specs.Declaring.{faults_within, scope_in, unless}
use Rattle.gb_declare.specs.Joined.{Joined, Made, Named, joined}
use Rattle.gb_declare.specs.Whole.{trees_of as expressions_of}
use Rattle.gb_declare.specs.Nodes.{Made as These, trees_made}
use Rattle.gb_declare.specs.Site.{Site}
use Rattle.gb_declare.specs.Wrong.{link_faults, root_faults}
use Rattle.gb_provider.specs.Rules.{output_place}
use Rattle.gb_provider.specs.Table.{Table}
use Rattle.gb_provider.specs.declared.expression.Expression.{Expression}
use Rattle.gb_provider.specs.declared.expression.Expression.TheVariants.{OfOutput}
use Rattle.gb_provider.specs.declared.fault.Chosen.{Chosen}
use Rattle.gb_registry.specs.Projects.{Path, with_paths}
use Rattle.gb_registry.specs.References.{Names}
use Rattle.gb_registry.specs.Said.{Registered, declared_property}
use Rattle.gb_registry.specs.Tables.{Tables}
use Rattle.gb_registry.specs.Wrong.{found_in_all}
use Rattle.gb_report.specs.declared.fault.Fault.{Fault}
use Rattle.gb_script.specs.Tree.{trees_of}
use Rattle.gb_script.specs.declared.script.Statement.{Statement}
use Rattle.gb_project.specs.Tasks.{script_tasks}

-- A declared task: the build folder of its project, its combined clauses, and the numbers of its expressions,
-- in the order in which they are evaluated.
pub record DeclaredTask : Type 0 where
  pub build : List ℕ
  pub task : Joined
  pub row : List ℕ

-- All expressions; and for each task so far its declaration, or why it is not declared.
pub record Stage (M F Z : Type 0) : Type 0 where
  pub nodes : List (Expression M F Z)
  pub faults : List (Option Fault)
  pub entries : List (Option DeclaredTask)

-- no tasks yet
abbrev pub begun : {M F Z : Type 0} → List (Expression M F Z) → Stage M F Z
begun nodes = record { nodes = nodes; faults = []; entries = [] }

-- ---- Outputs

-- how many expressions of a task come before those of its outputs
abbrev pub before_outputs : Joined → ℕ
before_outputs task =
    length (option_to_list task.enabled) + length task.only_if + length task.up_to_date_when
    + length task.values + length (flat_map (λ files. files.1.from) task.files)

-- of the numbers of all expressions those of the places of outputs
abbrev pub output_row : Joined → List ℕ → List ℕ
output_row task row = take (length task.outputs) (drop (before_outputs task) row)

module _ {M F Z : Type 0} where
  abbrev pub output_of : Chosen → ℕ → Expression M F Z
  output_of chosen place = OfOutput (record { chosen = chosen; declared = Some place })

  -- an output, at its position if it has one, or else after the others
  abbrev pub put_output : List (Expression M F Z) → Expression M F Z → Option ℕ → List (Expression M F Z)
  put_output nodes output None = nodes ++ output ∷ []
  put_output nodes output (Some place) = slice_set nodes place output

  abbrev pub with_output : List (Expression M F Z) → Chosen → ℕ → List (Expression M F Z)
  with_output nodes chosen place = put_output nodes (output_of chosen place) (output_place nodes chosen)

  -- each output of a task, declared as the expression of its number
  abbrev pub with_outputs : Path → List (Expression M F Z) → List (Named Made) → List ℕ
      → List (Expression M F Z)
  with_outputs path nodes [] row = nodes
  with_outputs path nodes (output ∷ outputs) [] = nodes
  with_outputs path nodes (output ∷ outputs) (place ∷ row) =
      with_outputs path (with_output nodes (record { task = path; output = output.0 }) place) outputs row

-- ---- Tasks

module _ {M F Z S : Type 0} (functions : Table M F Z S) (site : Site) where
  -- the expressions of a task after others
  abbrev pub row_made : List (Expression M F Z) → Joined → These M F Z (List ℕ)
  row_made nodes task =
      trees_made functions site (record { nodes = nodes; place = [] }) (trees_of (expressions_of task))

  -- and then its outputs
  abbrev pub task_made : Path → List (Expression M F Z) → Joined → These M F Z (List ℕ)
  task_made path nodes task =
      let made = row_made nodes task in
      record {
        nodes = with_outputs path made.nodes task.outputs (output_row task made.place);
        place = made.place;
      }

  -- one more task, which is declared or at fault
  abbrev pub with_declared : Path → Stage M F Z → Result Joined Fault → Stage M F Z
  with_declared path stage (Ok task) =
      let made = task_made path stage.nodes task in
      record {
        nodes = made.nodes;
        faults = stage.faults ++ None ∷ [];
        entries =
            stage.entries ++ Some (record { build = site.build; task = task; row = made.place }) ∷ [];
      }
  with_declared path stage (Err fault) = record {
    nodes = stage.nodes;
    faults = stage.faults ++ Some fault ∷ [];
    entries = stage.entries ++ None ∷ [];
  }

-- ---- Scripts

module _ {M F Z S A : Type 0} (tables : Tables M F Z S A) (names : Names) where
  -- what a task declares where the script knows these properties, or its first fault
  abbrev pub declared_in : List Statement → Registered → Result Joined Fault
  declared_in script task =
      unless (faults_within tables
      (scope_in task.project (with_paths [] (filter_map declared_property script)) (Some names)) task)
      (joined task)

  abbrev pub with_task : Site → List Statement → Stage M F Z → Registered → Stage M F Z
  with_task site script stage task =
      with_declared tables.functions site task.path stage (declared_in script task)

  -- all tasks of a project's script
  abbrev pub with_script : Site → Stage M F Z → Path × List Statement → Stage M F Z
  with_script site stage script = fold (with_task site script.1) stage (script_tasks script)

  -- the tasks of one script after another
  abbrev pub with_scripts : Stage M F Z → List Site → List (Path × List Statement) → Stage M F Z
  with_scripts stage [] scripts = stage
  with_scripts stage (site ∷ sites) [] = stage
  with_scripts stage (site ∷ sites) (script ∷ scripts) =
      with_scripts (with_script site stage script) sites scripts

  -- the expressions of a task that is declared have no fault
  abbrev pub IsGood : Site → Result Joined Fault → Type 0
  IsGood site (Ok task) =
      found_in_all (root_faults site) (link_faults tables.means tables.functions)
      (trees_of (expressions_of task)) ≡ []
  IsGood site (Err fault) = Unit {0}

  -- the same for the tasks of a script
  abbrev pub AreGood : Site → Path × List Statement → Type 0
  AreGood site script =
      AllByRecursion (λ task. IsGood site (declared_in script.1 task)) (script_tasks script)

  -- the same for the tasks of one script after another
  abbrev pub AreAllGood : List Site → List (Path × List Statement) → Type 0
  AreAllGood [] scripts = Unit {0}
  AreAllGood (site ∷ sites) [] = Unit {0}
  AreAllGood (site ∷ sites) (script ∷ scripts) = AreGood site script × AreAllGood sites scripts
