-- No task that scripts register is declared at fault by the device.
use Rattle.std.specs.Prelude.{ℕ, ◌≡◌, ◌++◌, Bool, true, false, cond, ⊤, List, [], ◌∷◌, map, Option, Some, None, Result, Ok, Err, IfErr, codes, is_some}
use Rattle.std.specs.List.{AllByRecursion, flat_map, list_any}
use Rattle.std.specs.FinMap.Entries.{find}
use Rattle.std.proofs.Common.{refl}
use Rattle.gb_action.specs.Meanings.{shape_of}
use Rattle.gb_action.specs.Shapes.{args_fit}
use Rattle.gb_core.specs.Lists.{byte_order}
use Rattle.gb_core.specs.Place.{is_beneath}
use Rattle.gb_core.specs.declared.value.Value.{Value}
use Rattle.gb_core.specs.declared.value.Value.TheVariants as values
use Rattle.gb_build.specs.Asking.{NoneBlameDevice}
use Rattle.gb_semantics.specs.Headline.{is_of_device}
use Rattle.gb_plan.specs.declared.task.Output.{Output}
use Rattle.gb_plan.specs.declared.task.TaskDeclaration.{TaskDeclaration}
use Rattle.gb_declare.specs.Declaring.{block_scope, call_faults, clash, clash_faults, clause_faults, clauses_faults, condition_faults, declared, declaring_faults, faults_within, files_faults, heading, is_misshapen, main_faults, pattern_faults, shape_faults, trees_faults, unless}
use Rattle.gb_declare.specs.Joined.{Joined, Made, Named, joined}
use Rattle.gb_declare.specs.Realised.{Endless, Plain, Trouble, action_of, and_then, answered, as_flag, as_place, asked, built, each_of, entry_of, evaluated, files_under, first_or, fitting, given_by, is_enabled, no_output, output_under, passes, place_of, present, realised, realised_at, realised_if, refused, required, reported, truth_of, unknown_output, value_under}
use Rattle.gb_declare.specs.Spots.{Spot}
use Rattle.gb_declare.specs.Whole.{build_folder, spots, table_of}
use Rattle.gb_provider.specs.Answers.{value_of}
use Rattle.gb_provider.specs.Meanings.{meaning_of}
use Rattle.gb_provider.specs.Table.{test_named}
use Rattle.gb_provider.specs.declared.expression.Expression.{Expression}
use Rattle.gb_provider.specs.declared.expression.Outcome.{Outcome}
use Rattle.gb_provider.specs.declared.expression.Outcome.TheVariants as outcomes
use Rattle.gb_provider.specs.declared.fault.Chosen.{Chosen}
use Rattle.gb_provider.specs.declared.fault.Refusal.{Refusal}
use Rattle.gb_provider.specs.declared.fault.Refusal.TheVariants as refusals
use Rattle.gb_provider.specs.declared.fault.ValueFault.{ValueFault}
use Rattle.gb_provider.specs.declared.fault.ValueFault.TheVariants as value_faults
use Rattle.gb_registry.specs.Projects.{Path, root_path}
use Rattle.gb_registry.specs.References.{Names, lookup_faults}
use Rattle.gb_registry.specs.Said.{Registered, Said, paths_of, task_at}
use Rattle.gb_registry.specs.Source.{Source}
use Rattle.gb_registry.specs.Tables.{Tables}
use Rattle.gb_registry.specs.Wrong.{Scope, test_faults, tree_faults}
use Rattle.gb_report.specs.declared.fault.Fault.{Fault}
use Rattle.gb_report.specs.declared.fault.Fault.TheVariants as faults
use Rattle.gb_script.specs.Tree.{Tree}
use Rattle.gb_script.specs.declared.function.Function.{Function}
use Rattle.gb_script.specs.declared.script.Call.{Call}
use Rattle.gb_script.specs.declared.script.Clause.{Clause}
use Rattle.gb_script.specs.declared.script.Clause.TheVariants as clauses
use Rattle.gb_script.specs.declared.script.Condition.{Condition}
use Rattle.gb_script.specs.declared.script.InputFiles.{InputFiles}
use Rattle.gb_declare.specs.Registered.{declaration_of, registry_said, settled}
use Rattle.gb_build.proofs.Blameless.{AreBlameless, IsFair, all_after, all_append, all_flat, lookup_blameless, none_or_one, one_or_none, reference_blameless, test_blameless, tree_blameless}

-- ---- Clauses

pattern_blameless : (text : List ℕ) → AreBlameless (pattern_faults text)
pattern_blameless text = none_or_one _ (faults.BadPattern text) refl

clash_blameless : (path : Path) (before : List Clause) (clause : Clause) → AreBlameless (clash_faults path before clause)
clash_blameless path before clause = one_or_none (list_any (λ earlier. clash (heading earlier) (heading clause)) before) (faults.BadShape path) refl

module _ {M F Z S A : Type 0} (tables : Tables M F Z S A) where
  module _ (scope : Scope) (fair : IsFair scope) where
    trees_blameless : (trees : List Tree) → AreBlameless (trees_faults tables scope trees)
    trees_blameless trees = all_flat (tree_faults tables scope) trees (tree_blameless tables scope fair)

    call_blameless : (call : Call) → AreBlameless (call_faults tables scope call)
    call_blameless call =
        all_append (cond (is_some (find byte_order call.name tables.kinds)) [] (faults.UnknownAction call.name ∷ [])) (trees_faults tables scope call.arguments)
        (none_or_one (is_some (find byte_order call.name tables.kinds)) (faults.UnknownAction call.name) refl) (trees_blameless call.arguments)

    condition_blameless : (condition : Condition) → AreBlameless (condition_faults tables scope condition)
    condition_blameless condition =
        all_append (tree_faults tables scope condition.value) (test_faults tables condition.test) (tree_blameless tables scope fair condition.value) (test_blameless tables condition.test)

    files_blameless : (files : InputFiles) → AreBlameless (files_faults tables scope files)
    files_blameless files =
        all_append (trees_faults tables scope files.from ++ flat_map pattern_faults files.include) (flat_map pattern_faults files.exclude)
        (all_append (trees_faults tables scope files.from) (flat_map pattern_faults files.include) (trees_blameless files.from) (all_flat pattern_faults files.include pattern_blameless))
        (all_flat pattern_faults files.exclude pattern_blameless)

    clause_blameless : (clause : Clause) → AreBlameless (clause_faults tables scope clause)
    clause_blameless (clauses.Input a) = tree_blameless tables scope fair a.value
    clause_blameless (clauses.InputFiles files) = files_blameless files
    clause_blameless (clauses.OutputFile a) = tree_blameless tables scope fair a.value
    clause_blameless (clauses.OutputDir a) = tree_blameless tables scope fair a.value
    clause_blameless (clauses.DependsOn texts) = all_flat scope.task_faults texts fair
    clause_blameless (clauses.MustRunAfter texts) = all_flat scope.task_faults texts fair
    clause_blameless (clauses.FinalizedBy texts) = all_flat scope.task_faults texts fair
    clause_blameless (clauses.DoFirst call) = call_blameless call
    clause_blameless (clauses.DoLast call) = call_blameless call
    clause_blameless (clauses.OnlyIf condition) = condition_blameless condition
    clause_blameless (clauses.UpToDateWhen condition) = condition_blameless condition
    clause_blameless (clauses.Enabled tree) = tree_blameless tables scope fair tree

    main_blameless : (main : Option Call) → AreBlameless (main_faults tables scope main)
    main_blameless None = tt
    main_blameless (Some call) = call_blameless call

    within_blameless : (task : Registered) → AreBlameless (faults_within tables scope task)
    within_blameless task =
        all_append (main_faults tables scope task.action ++ clauses_faults tables scope task.path [] task.clauses) (shape_faults tables task.path (joined task))
        (all_append (main_faults tables scope task.action) (clauses_faults tables scope task.path [] task.clauses) (main_blameless task.action)
        (all_after (λ before clause. clash_faults task.path before clause ++ clause_faults tables scope clause) [] task.clauses
        (λ before clause. all_append (clash_faults task.path before clause) (clause_faults tables scope clause) (clash_blameless task.path before clause) (clause_blameless clause))))
        (one_or_none (is_misshapen tables (joined task)) (faults.BadShape task.path) refl)

  declaring_blameless : (names : Names) (said : List Said) (task : Registered) → AreBlameless (declaring_faults tables names said task)
  declaring_blameless names said task = within_blameless (block_scope names said task.project) (reference_blameless names task.project) task

-- ---- Values

-- a fault, if it is one, is not the device's
abbrev pub IsFine : {X : Type 0} → Result X Fault → Type 0
IsFine (Ok x) = ⊤
IsFine (Err fault) = is_of_device fault ≡ false

-- trouble, if it is any, is a cycle or a fault that is not the device's
abbrev pub IsCalm : {X : Type 0} → Result X Trouble → Type 0
IsCalm (Ok x) = ⊤
IsCalm (Err (Plain fault)) = is_of_device fault ≡ false
IsCalm (Err (Endless entry)) = ⊤

then_calm : {X Y : Type 0} (first : Result X Trouble) (next : X → Result Y Trouble) → IsCalm first → ((x : X) → IsCalm (next x)) → IsCalm (and_then first next)
then_calm (Ok x) next calm after = after x
then_calm (Err (Plain fault)) next calm after = calm
then_calm (Err (Endless entry)) next calm after = tt

each_calm : {X Y : Type 0} (f : X → Result Y Trouble) (xs : List X) → ((x : X) → IsCalm (f x)) → IsCalm (each_of f xs)
each_calm f [] each = tt
each_calm f (x ∷ xs) each =
    then_calm (f x) (λ y. and_then (each_of f xs) (λ ys. Ok (y ∷ ys))) (each x)
    (λ y. then_calm (each_of f xs) (λ ys. Ok (y ∷ ys)) (each_calm f xs each) (λ ys. tt))

unless_fine : {X : Type 0} (xs : List Fault) (x : X) → AreBlameless xs → IsFine (unless xs x)
unless_fine [] x all = tt
unless_fine (fault ∷ xs) x all = all.0

first_or_blameless : (other : Fault) (xs : List Fault) → is_of_device other ≡ false → AreBlameless xs → is_of_device (first_or other xs) ≡ false
first_or_blameless other [] none all = none
first_or_blameless other (fault ∷ xs) none all = all.0

refused_blameless : (function : List ℕ) (refusal : Refusal) → is_of_device (refused function refusal) ≡ false
refused_blameless function refusals.BadArguments = refl
refused_blameless function refusals.WrongValue = refl

present_calm : (path : Path) (name : List ℕ) (value : Option Value) → IsCalm (present path name value)
present_calm path name (Some value) = tt
present_calm path name None = refl

place_calm : (name : List ℕ) (value : Value) → IsCalm (as_place name value)
place_calm name (values.Place place) = tt
place_calm name (values.Text text) = refl
place_calm name (values.Flag flag) = refl
place_calm name (values.List texts) = refl
place_calm name (values.Task task) = refl

flag_calm : (name : List ℕ) (value : Value) → IsCalm (as_flag name value)
flag_calm name (values.Flag flag) = tt
flag_calm name (values.Text text) = refl
flag_calm name (values.List texts) = refl
flag_calm name (values.Place place) = refl
flag_calm name (values.Task task) = refl

answered_calm : (test : Function) (answer : Result Bool Refusal) → IsCalm (answered test answer)
answered_calm test (Ok truth) = tt
answered_calm test (Err refusal) = refused_blameless test.name refusal

-- what a test finds in order, or else a fault
checked_calm : {X : Type 0} (b : Bool) (x : X) (fault : Fault) → is_of_device fault ≡ false → IsCalm (cond b (Ok x) (Err (Plain fault)))
checked_calm true x fault none = tt
checked_calm false x fault none = none

module _ {M F Z S A : Type 0} (tables : Tables M F Z S A) (source : Source) where
  declared_fine : (task : Registered) → IsFine (declared tables source.names source.said task)
  declared_fine task = unless_fine (declaring_faults tables source.names source.said task) (joined task) (declaring_blameless tables source.names source.said task)

  unknown_blameless : (chosen : Chosen) (task : Result Joined Fault) → IsFine task → is_of_device (unknown_output tables source chosen task) ≡ false
  unknown_blameless chosen (Ok task) fine = refl
  unknown_blameless chosen (Err fault) fine = fine

  no_output_blameless : (chosen : Chosen) (task : Option Registered) → is_of_device (no_output tables source chosen task) ≡ false
  no_output_blameless chosen None =
      first_or_blameless (faults.TaskNotFound chosen.task) (lookup_faults source.names root_path chosen.task) refl (lookup_blameless source.names root_path chosen.task)
  no_output_blameless chosen (Some task) = unknown_blameless chosen (declared tables source.names source.said task) (declared_fine task)

  reported_blameless : (fault : ValueFault) → is_of_device (reported tables source fault) ≡ false
  reported_blameless (value_faults.Refused function refusal) = refused_blameless function refusal
  reported_blameless (value_faults.Unrealised chosen) = no_output_blameless chosen (task_at source.said chosen.task)

  given_calm : (entry : ℕ) (outcome : Option Outcome) → IsCalm (given_by tables source entry outcome)
  given_calm entry (Some (outcomes.Given value)) = tt
  given_calm entry (Some outcomes.Absent) = tt
  given_calm entry (Some (outcomes.Refused fault)) = reported_blameless fault
  given_calm entry None = tt

  -- ---- A task

  module _ (at : Registered) (all : List Spot) (table : List (Expression M F Z)) where
    asked_calm : (tree : Tree) → IsCalm (asked tables source at all table tree)
    asked_calm tree = given_calm (entry_of tables source at all table tree) (value_of tables.means table (entry_of tables source at all table tree))

    required_calm : (name : List ℕ) (tree : Tree) → IsCalm (required tables source at all table name tree)
    required_calm name tree = then_calm (asked tables source at all table tree) (present at.path name) (asked_calm tree) (present_calm at.path name)

    place_of_calm : (name : List ℕ) (tree : Tree) → IsCalm (place_of tables source at all table name tree)
    place_of_calm name tree = then_calm (required tables source at all table name tree) (as_place name) (required_calm name tree) (place_calm name)

    enabled_calm : (enabled : Option Tree) → IsCalm (is_enabled tables source at all table enabled)
    enabled_calm None = tt
    enabled_calm (Some tree) =
        then_calm (required tables source at all table (codes "enabled") tree) (as_flag (codes "enabled")) (required_calm (codes "enabled") tree) (flag_calm (codes "enabled"))

    truth_calm : (test : Function) (stored : Option S) (value : Option Value) → IsCalm (truth_of tables source at all table test stored value)
    truth_calm test None value = refl
    truth_calm test (Some stored) None = tt
    truth_calm test (Some stored) (Some value) = answered_calm test (meaning_of tables.means.test stored value test.arguments)

    passes_calm : (condition : Condition) → IsCalm (passes tables source at all table condition)
    passes_calm condition =
        then_calm (asked tables source at all table condition.value) (truth_of tables source at all table condition.test (test_named tables.functions condition.test.name))
        (asked_calm condition.value) (truth_calm condition.test (test_named tables.functions condition.test.name))

    value_calm : (value : Named Tree) → IsCalm (value_under tables source at all table value)
    value_calm value = then_calm (required tables source at all table value.0 value.1) _ (required_calm value.0 value.1) (λ v. tt)

    files_calm : (files : Named InputFiles) → IsCalm (files_under tables source at all table files)
    files_calm files =
        then_calm (each_of (place_of tables source at all table files.0) files.1.from) _ (each_calm (place_of tables source at all table files.0) files.1.from (place_of_calm files.0)) (λ roots. tt)

    built_calm : (output : Output) → IsCalm (built tables source at all table output)
    built_calm output = checked_calm (is_beneath output.place (build_folder at.project)) output (faults.OutputOutsideBuild at.path output.place) refl

    output_calm : (output : Named Made) → IsCalm (output_under tables source at all table output)
    output_calm output =
        then_calm (place_of tables source at all table output.0 output.1.1) _ (place_of_calm output.0 output.1.1)
        (λ place. built_calm (record { name = output.0; form = output.1.0; place = place }))

    fitting_calm : (call : Call) (stored : Option A) (args : List Value) → IsCalm (fitting tables source at all table call stored args)
    fitting_calm call None args = refl
    fitting_calm call (Some stored) args =
        checked_calm (args_fit (shape_of tables.shapes stored).args args) _ (faults.BadArgument at.path call.name) refl

    action_calm : (call : Call) → IsCalm (action_of tables source at all table call)
    action_calm call =
        then_calm (each_of (required tables source at all table call.name) call.arguments) _ (each_calm (required tables source at all table call.name) call.arguments (required_calm call.name))
        (fitting_calm call (find byte_order call.name tables.kinds))

    evaluated_calm : (task : Joined) → IsCalm (evaluated tables source at all table task)
    evaluated_calm task =
        then_calm (is_enabled tables source at all table task.enabled) _ (enabled_calm task.enabled) (λ enabled.
        then_calm (each_of (passes tables source at all table) task.only_if) _ (each_calm (passes tables source at all table) task.only_if passes_calm) (λ passed.
        then_calm (each_of (passes tables source at all table) task.up_to_date_when) _ (each_calm (passes tables source at all table) task.up_to_date_when passes_calm) (λ fresh.
        then_calm (each_of (value_under tables source at all table) task.values) _ (each_calm (value_under tables source at all table) task.values value_calm) (λ values.
        then_calm (each_of (files_under tables source at all table) task.files) _ (each_calm (files_under tables source at all table) task.files files_calm) (λ files.
        then_calm (each_of (output_under tables source at all table) task.outputs) _ (each_calm (output_under tables source at all table) task.outputs output_calm) (λ outputs.
        then_calm (each_of (action_of tables source at all table) task.actions) _ (each_calm (action_of tables source at all table) task.actions action_calm) (λ actions. tt)))))))

  realised_at_calm : (at : Registered) (task : Result Joined Fault) → IsFine task → IsCalm (realised_at tables source at task)
  realised_at_calm at (Ok task) fine = evaluated_calm at (spots tables source) (table_of tables source (spots tables source)) task
  realised_at_calm at (Err fault) fine = fine

  realised_if_calm : (path : Path) (at : Option Registered) → IsCalm (realised_if tables source path at)
  realised_if_calm path None = first_or_blameless (faults.TaskNotFound path) (lookup_faults source.names root_path path) refl (lookup_blameless source.names root_path path)
  realised_if_calm path (Some at) = realised_at_calm at (declared tables source.names source.said at) (declared_fine at)

  -- what the task at a path declares, if not in a cycle, is not at fault by the device
  pub realised_calm : (path : Path) → IsCalm (realised tables source path)
  realised_calm path = realised_if_calm path (task_at source.said path)

  -- ---- What is registered

  -- a cycle is reported as a cycle
  settled_blameless : (task : Result TaskDeclaration Trouble) → IsCalm task → IfErr (settled tables source task) (λ fault. is_of_device fault ≡ false)
  settled_blameless (Ok task) calm = tt
  settled_blameless (Err (Plain fault)) calm = calm
  settled_blameless (Err (Endless entry)) calm = refl

  all_declared : (paths : List Path) → AllByRecursion (λ (entry : Path × Result TaskDeclaration Fault). IfErr entry.1 (λ fault. is_of_device fault ≡ false)) (map (λ path. (path, declaration_of tables source path)) paths)
  all_declared [] = tt
  all_declared (path ∷ paths) = (settled_blameless (realised tables source path) (realised_calm path), all_declared paths)

  -- no task that scripts register is declared at fault by the device
  pub declared_blame_none : NoneBlameDevice (registry_said tables source)
  declared_blame_none = all_declared (paths_of source.said)
