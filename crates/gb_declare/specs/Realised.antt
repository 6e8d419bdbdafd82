-- What a task declares, with its expressions evaluated.
use Rattle.std.specs.Prelude.{ℕ, Bool, true, false, not, ◌&&◌, List, [], ◌∷◌, ◌++◌, map, if◌then◌else◌}
use Rattle.std.specs.Prelude.{Option, Some, None, Result, Ok, Err, codes}
use Rattle.std.specs.List.{flat_map, list_all}
use Rattle.std.specs.FinMap.Entries.{find}
use Rattle.gb_core.specs.Place.{is_beneath}
use Rattle.gb_core.specs.declared.value.Value.{Value}
use Rattle.gb_core.specs.declared.value.Value.TheVariants as values
use Rattle.gb_core.specs.Lists.{byte_order}
use Rattle.gb_action.specs.Meanings.{shape_of}
use Rattle.gb_action.specs.Shapes.{args_fit}
use Rattle.gb_provider.specs.Answers.{value_of}
use Rattle.gb_provider.specs.Meanings.{meaning_of}
use Rattle.gb_provider.specs.Produced.{produced_by}
use Rattle.gb_core.specs.Tasks.{with_tasks}
use Rattle.gb_provider.specs.Table.{test_named}
use Rattle.gb_provider.specs.declared.expression.Expression.{Expression}
use Rattle.gb_provider.specs.declared.expression.Outcome.{Outcome}
use Rattle.gb_provider.specs.declared.expression.Outcome.TheVariants as outcomes
use Rattle.gb_provider.specs.declared.fault.Chosen.{Chosen}
use Rattle.gb_provider.specs.declared.fault.Refusal.{Refusal}
use Rattle.gb_provider.specs.declared.fault.Refusal.TheVariants as refusals
use Rattle.gb_provider.specs.declared.fault.ValueFault.{ValueFault}
use Rattle.gb_provider.specs.declared.fault.ValueFault.TheVariants as value_faults
use Rattle.gb_provider.specs.declared.produced.Produced.{Produced}
use Rattle.gb_provider.specs.declared.produced.Produced.TheVariants as produced
use Rattle.gb_script.specs.Tree.{Tree}
use Rattle.gb_script.specs.declared.function.Function.{Function}
use Rattle.gb_script.specs.declared.script.Call.{Call}
use Rattle.gb_script.specs.declared.script.Condition.{Condition}
use Rattle.gb_script.specs.declared.script.InputFiles.{InputFiles}
use Rattle.gb_tree.specs.Pattern.{spelled_out}
use Rattle.gb_tree.specs.declared.property.Naming.TheVariants.{NameOnly, Relative}
use Rattle.gb_report.specs.declared.fault.Fault.{Fault}
use Rattle.gb_report.specs.declared.fault.Fault.TheVariants as faults
use Rattle.gb_plan.specs.declared.task.Action.{Action}
use Rattle.gb_plan.specs.declared.task.FileProperty.{FileProperty}
use Rattle.gb_plan.specs.declared.task.Output.{Output}
use Rattle.gb_plan.specs.declared.task.TaskDeclaration.{TaskDeclaration}
use Rattle.gb_declare.specs.Declaring.{declared}
use Rattle.gb_declare.specs.Joined.{Joined, Named, Made}
use Rattle.gb_registry.specs.Projects.{Path, root_path}
use Rattle.gb_registry.specs.References.{lookup_faults}
use Rattle.gb_registry.specs.Said.{Registered, task_at}
use Rattle.gb_declare.specs.Spots.{Spot, spot_of}
use Rattle.gb_registry.specs.Tables.{Tables}
use Rattle.gb_registry.specs.Source.{Source}
use Rattle.gb_declare.specs.Whole.{spots, number_of, table_of, build_folder}

-- ---- One thing after another, up to the first fault

abbrev pub and_then : {X Y E : Type 0} → Result X E → (X → Result Y E) → Result Y E
and_then (Ok x) next = next x
and_then (Err e) next = Err e

-- the result of each, or the first fault
abbrev pub each_of : {X Y E : Type 0} → (X → Result Y E) → List X → Result (List Y) E
each_of f [] = Ok []
each_of f (x ∷ xs) = and_then (f x) (λ y. and_then (each_of f xs) (λ ys. Ok (y ∷ ys)))

-- ---- Why an expression gives no value

-- a fault, or a circle that an expression runs into
pub data Trouble : Type 0 where
  Plain : (fault : Fault) → Trouble
  Endless : (entry : ℕ) → Trouble

-- the fault of a function, under its name
abbrev pub refused : List ℕ → Refusal → Fault
refused function refusals.BadArguments = faults.BadArguments function
refused function refusals.WrongValue = faults.WrongValue function

-- the first fault of these, or else the other one
abbrev pub first_or : Fault → List Fault → Fault
first_or other [] = other
first_or other (fault ∷ faults) = fault

-- ---- The declaration of a task

-- with its path, its needs, and the results of its clauses
abbrev pub declared_with : Path → Joined → List Path → Bool → List Bool → List Bool → List (Named Value)
    → List FileProperty → List Output → List Action → TaskDeclaration
declared_with path task needs enabled passed fresh values files outputs actions = record {
  path = path;
  runs = enabled && list_all (λ truth. truth) passed;
  is_stale = not (list_all (λ truth. truth) fresh);
  values = values;
  files = files;
  outputs = outputs;
  actions = actions;
  needs = needs;
  must_run_after = task.must_run_after;
  finalizers = task.finalizers;
}

module _ {M F Z S A : Type 0} (tables : Tables M F Z S A) (source : Source) where
  -- why a task has no such output: the task itself is at fault, or it has none of the name
  abbrev pub unknown_output : Chosen → Result Joined Fault → Fault
  unknown_output chosen (Ok task) = faults.UnknownOutput chosen.task chosen.output
  unknown_output chosen (Err fault) = fault

  -- why there is no such output: there is no such task, or it has none
  abbrev pub no_output : Chosen → Option Registered → Fault
  no_output chosen None =
      first_or (faults.TaskNotFound chosen.task) (lookup_faults source.names root_path chosen.task)
  no_output chosen (Some task) = unknown_output chosen (declared tables source.names source.said task)

  -- the fault of a value, as it is reported
  abbrev pub reported : ValueFault → Fault
  reported (value_faults.Refused function refusal) = refused function refusal
  reported (value_faults.Unrealised chosen) = no_output chosen (task_at source.said chosen.task)

  -- what an expression gives: a value, or nothing; or what prevents it
  abbrev pub given_by : ℕ → Option Outcome → Result (Option Value) Trouble
  given_by entry (Some (outcomes.Given value)) = Ok (Some value)
  given_by entry (Some outcomes.Absent) = Ok None
  given_by entry (Some (outcomes.Refused fault)) = Err (Plain (reported fault))
  given_by entry None = Err (Endless entry)

-- ---- Values of their sorts

abbrev pub present : Path → List ℕ → Option Value → Result Value Trouble
present path name (Some value) = Ok value
present path name None = Err (Plain (faults.NoValue path name))

abbrev pub as_place : List ℕ → Value → Result (List ℕ) Trouble
as_place name (values.Place place) = Ok place
as_place name other = Err (Plain (faults.WrongValue name))

abbrev pub as_flag : List ℕ → Value → Result Bool Trouble
as_flag name (values.Flag flag) = Ok flag
as_flag name other = Err (Plain (faults.WrongValue name))

abbrev pub answered : Function → Result Bool Refusal → Result Bool Trouble
answered test (Ok truth) = Ok truth
answered test (Err refusal) = Err (Plain (refused test.name refusal))

abbrev pub tasks_from : Option (Produced ℕ) → List Path
tasks_from (Some (produced.Tasks tasks)) = tasks
tasks_from other = []

-- ---- A task

module _ {M F Z S A : Type 0} (tables : Tables M F Z S A) (source : Source) (at : Registered)
    (all : List Spot) (table : List (Expression M F Z)) where
  abbrev pub entry_of : Tree → ℕ
  entry_of tree = number_of tables source all (spot_of at.project tree)

  -- the value of an expression, if it has one
  abbrev pub asked : Tree → Result (Option Value) Trouble
  asked tree = given_by tables source (entry_of tree) (value_of tables.means table (entry_of tree))

  -- the value of an expression, which must have one, for this input, output or kind
  abbrev pub required : List ℕ → Tree → Result Value Trouble
  required name tree = and_then (asked tree) (present at.path name)

  abbrev pub place_of : List ℕ → Tree → Result (List ℕ) Trouble
  place_of name tree = and_then (required name tree) (as_place name)

  abbrev pub producers_of : Tree → List Path
  producers_of tree = tasks_from (produced_by tables.means table (entry_of tree))

  -- no `enabled`, or one that is true
  abbrev pub is_enabled : Option Tree → Result Bool Trouble
  is_enabled None = Ok true
  is_enabled (Some tree) = and_then (required (codes "enabled") tree) (as_flag (codes "enabled"))

  -- the result of a test on a value; a missing value passes no test
  abbrev pub truth_of : Function → Option S → Option Value → Result Bool Trouble
  truth_of test None value = Err (Plain (faults.UnknownTransform test.name))
  truth_of test (Some stored) None = Ok false
  truth_of test (Some stored) (Some value) =
      answered test (meaning_of tables.means.test stored value test.arguments)

  abbrev pub passes : Condition → Result Bool Trouble
  passes condition =
      and_then (asked condition.value)
      (truth_of condition.test (test_named tables.functions condition.test.name))

  abbrev pub value_under : Named Tree → Result (Named Value) Trouble
  value_under value = and_then (required value.0 value.1) (λ v. Ok (value.0, v))

  abbrev pub files_under : Named InputFiles → Result FileProperty Trouble
  files_under files = and_then (each_of (place_of files.0) files.1.from) (λ roots. Ok (record {
    name = files.0;
    incremental = files.1.incremental;
    skip_when_empty = files.1.skip_when_empty;
    naming = if files.1.name_only then NameOnly else Relative;
    roots = roots;
    include = map spelled_out files.1.include;
    exclude = map spelled_out files.1.exclude;
  }))

  -- an output lies strictly under the build folder of the project
  abbrev pub built : Output → Result Output Trouble
  built output =
      if is_beneath output.place (build_folder at.project) then Ok output
      else Err (Plain (faults.OutputOutsideBuild at.path output.place))

  abbrev pub output_under : Named Made → Result Output Trouble
  output_under output =
      and_then (place_of output.0 output.1.1)
      (λ place. built (record { name = output.0; form = output.1.0; place = place }))

  -- an action accepts its arguments
  abbrev pub fitting : Call → Option A → List Value → Result Action Trouble
  fitting call None args = Err (Plain (faults.UnknownAction call.name))
  fitting call (Some stored) args =
      let shape = shape_of tables.shapes stored in
      if args_fit shape.args args
      then Ok (record { kind = call.name; version = tables.shapes.version stored; args = args })
      else Err (Plain (faults.BadArgument at.path call.name))

  abbrev pub action_of : Call → Result Action Trouble
  action_of call =
      and_then (each_of (required call.name) call.arguments)
      (fitting call (find byte_order call.name tables.kinds))

  -- the expressions from which the needs of a task come: input values, roots of files, and arguments of
  -- actions
  abbrev pub needing : Joined → List Tree
  needing task =
      map (λ value. value.1) task.values ++ flat_map (λ files. files.1.from) task.files
      ++ flat_map (λ call. call.arguments) task.actions

  abbrev pub needs_of : Joined → List Path
  needs_of task = with_tasks task.depends_on (flat_map producers_of (needing task))

  -- Evaluated in this order; the first fault is reported.
  abbrev pub evaluated : Joined → Result TaskDeclaration Trouble
  evaluated task =
      and_then (is_enabled task.enabled) (λ enabled.
      and_then (each_of passes task.only_if) (λ passed.
      and_then (each_of passes task.up_to_date_when) (λ fresh.
      and_then (each_of value_under task.values) (λ values.
      and_then (each_of files_under task.files) (λ files.
      and_then (each_of output_under task.outputs) (λ outputs.
      and_then (each_of action_of task.actions) (λ actions.
      Ok (declared_with at.path task (needs_of task) enabled passed fresh values files outputs actions))))))))

module _ {M F Z S A : Type 0} (tables : Tables M F Z S A) (source : Source) where
  -- a declared task evaluated over the whole table; its declaration fault is reported first
  abbrev pub realised_at : Registered → Result Joined Fault → Result TaskDeclaration Trouble
  realised_at at (Ok task) =
      let all = spots tables source in evaluated tables source at all (table_of tables source all) task
  realised_at at (Err fault) = Err (Plain fault)

  -- a registered task; where none is registered under the path, that is its fault
  abbrev pub realised_if : Path → Option Registered → Result TaskDeclaration Trouble
  realised_if path None =
      Err (Plain (first_or (faults.TaskNotFound path) (lookup_faults source.names root_path path)))
  realised_if path (Some at) = realised_at at (declared tables source.names source.said at)

  -- What the task at a path declares, or its first fault.
  abbrev pub realised : Path → Result TaskDeclaration Trouble
  realised path = realised_if path (task_at source.said path)
