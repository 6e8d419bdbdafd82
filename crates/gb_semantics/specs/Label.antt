-- The outcome of a task that starts: the first case that applies.
use Rattle.std.specs.Prelude.{ℕ, ◌≡◌, Bool, false, not, ◌&&◌, ◌⊎◌, List, [], ◌∷◌, ◌++◌, map, if◌then◌else◌}
use Rattle.std.specs.Prelude.{Option, Some, None, IsTrue}
use Rattle.std.specs.List.{list_any, filter}
use Rattle.gb_report.specs.declared.fault.Fault.{Fault}
use Rattle.gb_report.specs.declared.report.Outcome.{Outcome}
use Rattle.gb_report.specs.declared.report.Outcome.TheVariants as outcomes
use Rattle.gb_report.specs.declared.report.Options.{Options}
use Rattle.gb_folder.specs.Files.{is_empty, Files, Contents}
use Rattle.gb_core.specs.Lists.{first_of}
use Rattle.gb_semantics.specs.Kinds.{Kinds, kind_of}
use Rattle.gb_report.specs.Outcome.{is_executed}
use Rattle.gb_plan.specs.Task.{Path, has_path}
use Rattle.gb_plan.specs.declared.task.Action.{Action}
use Rattle.gb_plan.specs.declared.task.TaskDeclaration.{TaskDeclaration as Task}
use Rattle.gb_action.specs.Files.{Trees, tree_at}
use Rattle.gb_semantics.specs.Tree.{tree_of, trees_of, input_faults, listing_faults, has_no_source}
use Rattle.gb_semantics.specs.Made.{rest_of}
use Rattle.gb_semantics.specs.Run.{Ended, ends}
use Rattle.gb_semantics.specs.Memory.{Entry, World, recalled, output_files, entry_of}
use Rattle.gb_action.specs.Changes.{Changes, changes_between}
use Rattle.gb_plan.specs.Graph.{Plan, needs_in}

-- the moment when the execution of a task begins: the world, the outcomes of the tasks before it, and the
-- count of the device's failures
pub record Moment : Type 0 where
  pub world : World
  pub outcomes : List (Path × Outcome)
  pub failures : ℕ

-- a task of this list has an outcome that passes the test
abbrev pub some_outcome : (Outcome → Bool) → Moment → List Path → Bool
some_outcome test moment paths = list_any (λ entry. has_path paths entry.0 && test entry.1) moment.outcomes

-- ---- The cases that are decided before any record is read, in their order

pub data Early : Type 0 where
  -- `enabled` or a test is false
  Skips : Early
  -- there is no action
  HasNoActions : Early
  -- inputs cannot be read, or outputs not listed, for the first of these faults
  CannotRead : List Fault → Early
  -- all properties that skip the task when empty are empty
  HasNoSource : Early

abbrev pub early_case : Task → Contents → Option Early
early_case task folder =
    let hindrances = input_faults task folder ++ listing_faults task folder in
    if not task.runs then Some Skips
    else if is_empty task.actions then Some HasNoActions
    else if not (is_empty hindrances) then Some (CannotRead hindrances)
    else if has_no_source task folder.files then Some HasNoSource
    else None

-- ---- Up to date

-- The task has outputs and no false `upToDateWhen`, no rerun is requested, and what is remembered of it is
-- what it has now.
pub record IsCurrent (options : Options) (task : Task) (world : World) : Type 0 where
  pub has_outputs : is_empty task.outputs ≡ false
  pub not_stale : task.is_stale ≡ false
  pub no_rerun : options.rerun ≡ false
  pub same : recalled world.memory task.path ≡ Some (entry_of task world.folder.files)

-- ---- Incremental runs

-- exactly one action writes files, and its kind is incremental
abbrev pub has_one_writer : Kinds → List Action → Bool
has_one_writer kinds actions = one_incremental (filter (λ action. kinds.writes (kind_of action)) actions)
  where
    one_incremental : List Action → Bool
    one_incremental [] = false
    one_incremental (writer ∷ []) = kinds.incremental (kind_of writer)
    one_incremental (writer ∷ other ∷ others) = false

-- What is remembered differs from what the task has now only in incremental properties.
pub record IsIncremental (kinds : Kinds) (options : Options) (task : Task) (world : World) : Type 0 where
  pub entry : Entry
  pub remembered : recalled world.memory task.path ≡ Some entry
  pub same_actions : entry.actions ≡ task.actions
  pub same_values : entry.values ≡ task.values
  pub same_outputs : entry.outputs ≡ task.outputs
  pub same_files : entry.files ≡ output_files task world.folder.files
  pub same_properties : map (λ tree. tree.0) entry.inputs ≡ map (λ property. property.name) task.files
  pub same_others : map (λ property. tree_at entry.inputs property.name)
      (filter (λ property. not property.incremental) task.files)
      ≡ map (λ property. tree_of property world.folder.files)
      (filter (λ property. not property.incremental) task.files)
  pub not_stale : task.is_stale ≡ false
  pub no_rerun : options.rerun ≡ false
  pub one_writer : IsTrue (has_one_writer kinds task.actions)

-- the changes of the task's incremental properties from these trees
abbrev pub changes_from : Task → Trees → Files → List Changes
changes_from task old files =
    map (λ property. (property.name, changes_between (tree_at old property.name) (tree_of property files)))
    (filter (λ property. property.incremental) task.files)

-- the changes that an action is given: since the remembered run where this run is incremental, else every
-- path is added
abbrev pub AreChanges : Kinds → Options → Task → World → List Changes → Type 0
AreChanges kinds options task world changes =
    ((since : IsIncremental kinds options task world)
    × (changes ≡ changes_from task since.entry.inputs world.folder.files))
    ⊎ ((¬ IsIncremental kinds options task world) × (changes ≡ changes_from task [] world.folder.files))

-- ---- The outcome

-- the run of the task's actions, over the folder without the files at its outputs
abbrev pub run_of : Kinds → Task → Files → Ended
run_of kinds task files =
    ends kinds task.outputs task.values (trees_of task files) (rest_of task files) [] task.actions

-- the outcome of a run
abbrev pub EndsWith : Option Fault → Outcome → Type 0
EndsWith None outcome = outcome ≡ outcomes.Executed
EndsWith (Some fault) outcome = outcome ≡ outcomes.Failed fault

-- The outcome of a started task, by the first case that holds: skipped; no actions; unreadable inputs; no
-- source; up to date; run.
abbrev pub IsOutcomeAt : Kinds → Options → Plan → Task → Moment → Option Early → Outcome → Type 0
IsOutcomeAt kinds options plan task moment (Some Skips) outcome = outcome ≡ outcomes.Skipped
IsOutcomeAt kinds options plan task moment (Some HasNoActions) outcome =
    outcome ≡
    (if some_outcome is_executed moment (needs_in plan task) then outcomes.Executed else outcomes.UpToDate)
IsOutcomeAt kinds options plan task moment (Some (CannotRead hindrances)) outcome =
    (fault : Fault) × (first_of hindrances ≡ Some fault) × (outcome ≡ outcomes.Failed fault)
IsOutcomeAt kinds options plan task moment (Some HasNoSource) outcome = outcome ≡ outcomes.NoSource
IsOutcomeAt kinds options plan task moment None outcome =
    (IsCurrent options task moment.world × (outcome ≡ outcomes.UpToDate))
    ⊎ ((¬ IsCurrent options task moment.world)
    × EndsWith (run_of kinds task moment.world.folder.files).fault outcome)

abbrev pub IsOutcomeOf : Kinds → Options → Plan → Task → Moment → Outcome → Type 0
IsOutcomeOf kinds options plan task moment outcome =
    IsOutcomeAt kinds options plan task moment (early_case task moment.world.folder) outcome
