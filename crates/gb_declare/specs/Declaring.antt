-- Why a task is not declared.
use Rattle.std.specs.Prelude.{ℕ, Bool, true, false, not, ◌&&◌, ◌||◌, List, [], ◌∷◌, ◌++◌, map, if◌then◌else◌}
use Rattle.std.specs.Prelude.{Option, Some, None, Result, Ok, Err, is_some, codes, bytes_eq}
use Rattle.std.specs.List.{flat_map, list_any}
use Rattle.std.specs.FinMap.Entries.{find}
use Rattle.gb_core.specs.Lists.{byte_order}
use Rattle.gb_action.specs.Meanings.{shape_of}
use Rattle.gb_action.specs.Shapes.{has_source, has_output}
use Rattle.gb_script.specs.Tree.{Tree}
use Rattle.gb_script.specs.declared.script.Call.{Call}
use Rattle.gb_script.specs.declared.script.Condition.{Condition}
use Rattle.gb_script.specs.declared.script.InputFiles.{InputFiles}
use Rattle.gb_script.specs.declared.script.Clause.{Clause}
use Rattle.gb_script.specs.declared.script.Clause.TheVariants as clauses
use Rattle.gb_tree.specs.Pattern.{is_pattern}
use Rattle.gb_report.specs.declared.fault.Fault.{Fault}
use Rattle.gb_report.specs.declared.fault.Fault.TheVariants as faults
use Rattle.gb_registry.specs.Configure.{each_after}
use Rattle.gb_declare.specs.Joined.{Joined, Named, joined}
use Rattle.gb_registry.specs.Projects.{Path}
use Rattle.gb_registry.specs.References.{Names}
use Rattle.gb_registry.specs.Said.{Said, Registered, properties_of}
use Rattle.gb_registry.specs.Tables.{Tables}
use Rattle.gb_registry.specs.Wrong.{Scope, task_faults_in, tree_faults, test_faults}

-- ---- Names in two forms

-- the name that a clause is about, and the word that it begins with
abbrev pub heading : Clause → Option (Named (List ℕ))
heading (clauses.Input a) = Some (a.name, codes "input")
heading (clauses.InputFiles files) = Some (files.name, codes "inputFiles")
heading (clauses.OutputFile a) = Some (a.name, codes "outputFile")
heading (clauses.OutputDir a) = Some (a.name, codes "outputDir")
heading other = None

-- the same name after different words
abbrev pub clash : Option (Named (List ℕ)) → Option (Named (List ℕ)) → Bool
clash (Some a) (Some b) = bytes_eq a.0 b.0 && not (bytes_eq a.1 b.1)
clash a b = false

abbrev pub clash_faults : Path → List Clause → Clause → List Fault
clash_faults path before clause =
    if list_any (λ earlier. clash (heading earlier) (heading clause)) before then faults.BadShape path ∷ []
    else []

-- ---- Clauses

abbrev pub pattern_faults : List ℕ → List Fault
pattern_faults text = if is_pattern text then [] else faults.BadPattern text ∷ []

-- in a project's script these properties are known, and all tasks where their names are known
abbrev pub scope_in : Path → List (List ℕ) → Option Names → Scope
scope_in project properties names =
    record { project = project; properties = properties; task_faults = task_faults_in names project }

-- in a block any property of the script is known, and tasks are looked up at once
abbrev pub block_scope : Names → List Said → Path → Scope
block_scope names said project = scope_in project (properties_of said project) (Some names)

module _ {M F Z S A : Type 0} (tables : Tables M F Z S A) (scope : Scope) where
  abbrev pub trees_faults : List Tree → List Fault
  trees_faults trees = flat_map (tree_faults tables scope) trees

  -- no action of the name is stored; and the faults of its arguments
  abbrev pub call_faults : Call → List Fault
  call_faults call =
      (if is_some (find byte_order call.name tables.kinds) then [] else faults.UnknownAction call.name ∷ [])
      ++ trees_faults call.arguments

  abbrev pub condition_faults : Condition → List Fault
  condition_faults condition = tree_faults tables scope condition.value ++ test_faults tables condition.test

  abbrev pub files_faults : InputFiles → List Fault
  files_faults files =
      trees_faults files.from ++ flat_map pattern_faults files.include
      ++ flat_map pattern_faults files.exclude

  abbrev pub clause_faults : Clause → List Fault
  clause_faults (clauses.Input a) = tree_faults tables scope a.value
  clause_faults (clauses.InputFiles files) = files_faults files
  clause_faults (clauses.OutputFile a) = tree_faults tables scope a.value
  clause_faults (clauses.OutputDir a) = tree_faults tables scope a.value
  clause_faults (clauses.DependsOn texts) = flat_map scope.task_faults texts
  clause_faults (clauses.MustRunAfter texts) = flat_map scope.task_faults texts
  clause_faults (clauses.FinalizedBy texts) = flat_map scope.task_faults texts
  clause_faults (clauses.DoFirst call) = call_faults call
  clause_faults (clauses.DoLast call) = call_faults call
  clause_faults (clauses.OnlyIf condition) = condition_faults condition
  clause_faults (clauses.UpToDateWhen condition) = condition_faults condition
  clause_faults (clauses.Enabled tree) = tree_faults tables scope tree

  -- the faults of clauses after others, each with its clash before its own
  abbrev pub clauses_faults : Path → List Clause → List Clause → List Fault
  clauses_faults path = each_after (λ before clause. clash_faults path before clause ++ clause_faults clause)

  -- the call after the colon, if there is one
  abbrev pub main_faults : Option Call → List Fault
  main_faults None = []
  main_faults (Some call) = call_faults call

-- something, unless there is a fault
abbrev pub unless : {X : Type 0} → List Fault → X → Result X Fault
unless [] x = Ok x
unless (fault ∷ faults) x = Err fault

-- ---- Shapes

-- outputs without an action that makes them
abbrev pub lacks_actions : {X Y : Type 0} → List X → List Y → Bool
lacks_actions [] actions = false
lacks_actions (output ∷ outputs) [] = true
lacks_actions (output ∷ outputs) (action ∷ actions) = false

module _ {M F Z S A : Type 0} (tables : Tables M F Z S A) where
  -- an action that is stored reads a file property that the task lacks, or writes an output of a form that it
  -- lacks
  abbrev pub is_misfit : Joined → Option A → Bool
  is_misfit task None = false
  is_misfit task (Some stored) =
      let shape = shape_of tables.shapes stored in
      not (has_source shape (map (λ files. files.0) task.files)
      && has_output shape.out (map (λ output. (output.0, output.1.0)) task.outputs))

  abbrev pub is_misshapen : Joined → Bool
  is_misshapen task =
      lacks_actions task.outputs task.actions
      || list_any (λ call. is_misfit task (find byte_order call.name tables.kinds)) task.actions

  abbrev pub shape_faults : Path → Joined → List Fault
  shape_faults path task = if is_misshapen task then faults.BadShape path ∷ [] else []

  -- ---- A task

  -- the faults for which a task is not declared at its position, in the order in which they are reported:
  -- those of the script, in its order, and its shape last
  abbrev pub faults_within : Scope → Registered → List Fault
  faults_within scope task =
      main_faults tables scope task.action
      ++ clauses_faults tables scope task.path [] task.clauses
      ++ shape_faults task.path (joined task)

  abbrev pub declaring_faults : Names → List Said → Registered → List Fault
  declaring_faults names said task = faults_within (block_scope names said task.project) task

  -- what a task declares, or its first fault
  abbrev pub declared : Names → List Said → Registered → Result Joined Fault
  declared names said task = unless (declaring_faults names said task) (joined task)
