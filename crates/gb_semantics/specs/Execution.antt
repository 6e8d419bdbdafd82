-- A build, task by task: which tasks start, the outcome of each, and what it leaves.
use Rattle.std.specs.Prelude.{ℕ, ◌≡◌, ◌+◌, ◌≤◌, ◌≢◌, Bool, true, false, not, ◌&&◌, ◌||◌, ◌⊎◌, List, [], ◌∷◌}
use Rattle.std.specs.Prelude.{◌++◌, length, map, take, if◌then◌else◌, Option, Some, None, Ok}
use Rattle.std.specs.Prelude.{IsTrue, bytes_eq, Contains}
use Rattle.std.specs.List.{list_any, filter, flat_map}
use Rattle.gb_report.specs.declared.fault.Fault.{Fault}
use Rattle.gb_report.specs.declared.fault.Fault.TheVariants as faults
use Rattle.gb_report.specs.declared.report.Outcome.{Outcome}
use Rattle.gb_report.specs.declared.report.Outcome.TheVariants as outcomes
use Rattle.gb_report.specs.declared.report.Options.{Options}
use Rattle.gb_report.specs.declared.report.TaskReport.{TaskReport}
use Rattle.gb_report.specs.declared.report.Heard.{Heard}
use Rattle.gb_report.specs.declared.report.Heard.TheVariants as heard
use Rattle.gb_folder.specs.Files.{IsFolder, is_empty, Place, Bytes, Files, file_at, DiffersOnlyAt}
use Rattle.gb_plan.specs.Task.{Text, Path, has_path, is_output_of}
use Rattle.gb_plan.specs.declared.task.Action.{Action}
use Rattle.gb_plan.specs.declared.task.TaskDeclaration.{TaskDeclaration as Task}
use Rattle.gb_action.specs.Files.{Trees}
use Rattle.gb_semantics.specs.Tree.{trees_of, has_no_source}
use Rattle.gb_semantics.specs.Kinds.{Kinds, kind_of}
use Rattle.gb_action.specs.declared.reply.Written.{Written}
use Rattle.gb_semantics.specs.Made.{placed, made, made_of, with_outputs}
use Rattle.gb_semantics.specs.Memory.{Memory, World, folder_contents, recalled, remember, forget, entry_of}
use Rattle.gb_action.specs.Changes.{Changes}
use Rattle.gb_plan.specs.Graph.{Plan, Reached, needs_in, order}
use Rattle.gb_plan.specs.declared.plan.Planned.{Planned}
use Rattle.gb_semantics.specs.Label.{Moment, Early, CannotRead, Skips, HasNoActions, HasNoSource, early_case}
use Rattle.gb_semantics.specs.Label.{some_outcome, IsOutcomeOf, IsCurrent, IsIncremental, AreChanges, run_of}
use Rattle.gb_report.specs.Outcome.{is_failed, is_started}

-- ---- Which tasks start

abbrev pub has_not_ended_well : Outcome → Bool
has_not_ended_well outcome = is_failed outcome || not (is_started outcome)

-- the task finalizes one that was started
abbrev pub finalizes_started : Plan → Moment → Path → Bool
finalizes_started plan moment path =
    some_outcome is_started moment
    (map (λ planned. planned.task.path) (filter (λ planned. has_path planned.task.finalizers path) plan))

-- the finalizers of the tasks that were started
abbrev pub open_finalizers : Plan → Moment → List Path
open_finalizers plan moment = filter (finalizes_started plan moment) (order plan)

-- a finalizer of a started task, or reached by needs from one
abbrev pub ServesFinalizer : Plan → Moment → Path → Type 0
ServesFinalizer plan moment path =
    Reached (open_finalizers plan moment)
    (λ p. flat_map (λ planned. needs_in plan planned.task)
    (filter (λ planned. bytes_eq planned.task.path p) plan))
    (λ _. false) path

-- a direct need of it failed or was not run
abbrev pub lacks_need : Plan → Moment → Planned → Bool
lacks_need plan moment planned = some_outcome has_not_ended_well moment (needs_in plan planned.task)

-- neither selected nor needed by a scheduled task, and nothing that it finalizes was started
abbrev pub is_uncalled : Plan → Moment → Planned → Bool
is_uncalled plan moment planned =
    not planned.is_selected
    && not (list_any (λ other. has_path other.task.needs planned.task.path) plan)
    && not (finalizes_started plan moment planned.task.path)

-- a task has failed, and the build is not to continue after a failure
abbrev pub is_stopping : Options → Moment → Bool
is_stopping options moment = list_any (λ entry. is_failed entry.1) moment.outcomes && not options.keep_going

pub record DoesStart (options : Options) (plan : Plan) (moment : Moment) (planned : Planned) : Type 0 where
  pub needs_ended_well : lacks_need plan moment planned ≡ false
  pub is_called : is_uncalled plan moment planned ≡ false
  pub goes_on : (is_stopping options moment ≡ false) ⊎ ServesFinalizer plan moment planned.task.path

-- ---- What a task leaves

-- an incremental run does not change a file that already is as it is to be made
abbrev pub KeepsRightFiles : Kinds → Options → Task → World → World → Type 0
KeepsRightFiles kinds options task old new =
    IsIncremental kinds options task old → (files : Files) → made kinds task old.folder.files ≡ Ok files →
    (place : Place) (bytes : List ℕ) → file_at files place ≡ Some bytes
    → file_at old.folder.files place ≡ Some bytes →
    file_at new.folder.files place ≡ Some bytes

-- the actions that the task's run on these files reaches: those that end, and the one that it ends at
abbrev pub reached_by : Kinds → Task → Files → List Action
reached_by kinds task files = take (length (run_of kinds task files).done + 1) task.actions

-- an action that the task's run on these files reaches writes these bytes at the place; without source none
abbrev pub IsWritten : Kinds → Task → Files → Place → Bytes → Type 0
IsWritten kinds task files place bytes =
    (has_no_source task files ≡ false)
    × (action : Action) × (written : List Written) × Contains (reached_by kinds task files) action
    × (kinds.makes (kind_of action) action.args task.values (trees_of task files) ≡ Ok written)
    × Contains (placed task.outputs written) (place, bytes)

-- Nothing is invented: each file at the task's outputs was there before, or one of its actions writes it, or
-- the device failed at that very place.
abbrev pub InventsNothing : Kinds → Task → Fault → World → World → Type 0
InventsNothing kinds task fault old new =
    (place : Place) (bytes : Bytes) → is_output_of task place ≡ true
    → file_at new.folder.files place ≡ Some bytes →
    (file_at old.folder.files place ≡ Some bytes) ⊎ IsWritten kinds task old.folder.files place bytes
    ⊎ (fault ≡ faults.Device place)

-- what a run that failed leaves: it had begun, so nothing is remembered of the task
pub record IsGivenUp (kinds : Kinds) (task : Task) (fault : Fault) (old new : World) : Type 0 where
  pub files : DiffersOnlyAt (is_output_of task) old.folder.files new.folder.files
  pub invents_nothing : InventsNothing kinds task fault old new
  pub special : new.folder.special ≡ old.folder.special
  pub memory : new.memory ≡ forget old.memory task.path

-- the cause of a failure: the task itself, or the machine, which may fail at any moment of a build
pub data Cause : Type 0 where
  ByItself : Cause
  ByMachine : Cause

abbrev pub cause_of : Fault → Cause
cause_of faults.OutOfMemory = ByMachine
cause_of (faults.Device place) = ByMachine
cause_of faults.HistoryNotWritten = ByMachine
cause_of other = ByItself

-- the world with these files at the task's output places
abbrev pub world_with : Task → World → Files → Memory → World
world_with task old files memory =
    record {
      folder = record old.folder { files = with_outputs task old.folder.files files };
      memory = memory;
    }

-- where the run has begun, the memory after its end: an entry where the task has outputs, else none
abbrev pub memory_after : Task → Memory → Files → Memory
memory_after task memory files =
    if is_empty task.outputs then forget memory task.path else remember memory task.path (entry_of task files)

-- The run ended well: the task's files are those that its actions make, and they are remembered.
abbrev pub HasEnded : Kinds → Task → World → World → Type 0
HasEnded kinds task old new =
    (files : Files)
    × (made_of kinds task.actions task.values (trees_of task old.folder.files) task.outputs ≡ Ok files)
    × (new ≡ world_with task old files
    (memory_after task old.memory (with_outputs task old.folder.files files)))

-- The run was given up, and an incremental run has kept the files that were right.
abbrev pub GivesUp : Kinds → Options → Task → Fault → World → World → Type 0
GivesUp kinds options task fault old new =
    IsGivenUp kinds task fault old new × KeepsRightFiles kinds options task old new

-- A run that failed had begun: it was given up, or had ended well and its record was torn.
abbrev pub HadBegun : Kinds → Options → Task → Fault → World → World → Type 0
HadBegun kinds options task fault old new =
    GivesUp kinds options task fault old new
    ⊎ ((fault ≡ faults.HistoryNotWritten) × HasEnded kinds task old new)

-- What a failed run leaves. Where the machine failed, the run may not have begun, and may have ended. A
-- current task does not run.
abbrev pub FailedRunLeaves : Kinds → Options → Task → Fault → World → World → Cause → Type 0
FailedRunLeaves kinds options task fault old new ByItself = GivesUp kinds options task fault old new
FailedRunLeaves kinds options task fault old new ByMachine =
    (IsCurrent options task old → new ≡ old)
    × ((new ≡ old) ⊎ HadBegun kinds options task fault old new)

-- What a failure leaves, by the case that the task was in. Before a run or the removal of files has begun
-- nothing changes.
abbrev pub FailureLeaves : Kinds → Options → Task → Fault → World → World → Option Early → Type 0
FailureLeaves kinds options task fault old new (Some Skips) = new ≡ old
FailureLeaves kinds options task fault old new (Some HasNoActions) = new ≡ old
FailureLeaves kinds options task fault old new (Some (CannotRead hindrances)) = new ≡ old
FailureLeaves kinds options task fault old new (Some HasNoSource) =
    (new ≡ old) ⊎ IsGivenUp kinds task fault old new
FailureLeaves kinds options task fault old new None =
    FailedRunLeaves kinds options task fault old new (cause_of fault)

-- What each outcome leaves.
abbrev pub Leaves : Kinds → Options → Task → World → Outcome → World → Type 0
Leaves kinds options task old outcomes.Executed new =
    ((is_empty task.actions ≡ true) × (new ≡ old))
    ⊎ ((is_empty task.actions ≡ false) × HasEnded kinds task old new)
Leaves kinds options task old outcomes.UpToDate new = new ≡ old
Leaves kinds options task old outcomes.Skipped new = new ≡ old
Leaves kinds options task old outcomes.NoSource new =
    new ≡ world_with task old [] (forget old.memory task.path)
Leaves kinds options task old outcomes.NotRun new = new ≡ old
Leaves kinds options task old (outcomes.Failed fault) new =
    FailureLeaves kinds options task fault old new (early_case task old.folder)

-- ---- What a task prints

abbrev pub lines_of : Kinds → Task → Trees → List Changes → List Action → List Text
lines_of kinds task trees changes actions =
    flat_map (λ action. kinds.prints (kind_of action) action.args task.values trees changes) actions

-- The lines of the actions that ended: of all that can end, or of some where the machine stopped the run.
abbrev pub FailedRunPrints : Kinds → Options → Task → World → List Text → Cause → Type 0
FailedRunPrints kinds options task old lines ByItself =
    (changes : List Changes) × AreChanges kinds options task old changes
    × (lines ≡ lines_of kinds task (trees_of task old.folder.files) changes
    (run_of kinds task old.folder.files).done)
FailedRunPrints kinds options task old lines ByMachine =
    (lines ≡ []) ⊎ ((¬ IsCurrent options task old) × (changes : List Changes) × (count : ℕ)
    × AreChanges kinds options task old changes
    × (lines ≡ lines_of kinds task (trees_of task old.folder.files) changes
    (take count (run_of kinds task old.folder.files).done)))

-- what a failed task prints, by the case that it was in
abbrev pub FailurePrints : Kinds → Options → Task → World → List Text → Fault → Option Early → Type 0
FailurePrints kinds options task old lines fault (Some case) = lines ≡ []
FailurePrints kinds options task old lines fault None =
    FailedRunPrints kinds options task old lines (cause_of fault)

-- what each outcome prints
abbrev pub Prints : Kinds → Options → Task → World → Outcome → List Text → Type 0
Prints kinds options task old outcomes.Executed lines =
    (changes : List Changes) × AreChanges kinds options task old changes
    × (lines ≡ lines_of kinds task (trees_of task old.folder.files) changes task.actions)
Prints kinds options task old outcomes.UpToDate lines = lines ≡ []
Prints kinds options task old outcomes.Skipped lines = lines ≡ []
Prints kinds options task old outcomes.NoSource lines = lines ≡ []
Prints kinds options task old outcomes.NotRun lines = lines ≡ []
Prints kinds options task old (outcomes.Failed fault) lines =
    FailurePrints kinds options task old lines fault (early_case task old.folder)

-- ---- The execution of a task, and a build

-- The record of the task is deleted or stored: files are removed or a run begins, of a task that has outputs
-- or is remembered.
abbrev pub TouchesRecordIn : Options → Task → World → Option Early → Type 0
TouchesRecordIn options task world (Some HasNoSource) = recalled world.memory task.path ≢ None
TouchesRecordIn options task world (Some case) = ⊥
TouchesRecordIn options task world None =
    (¬ IsCurrent options task world)
    × ((is_empty task.outputs ≡ false) ⊎ (recalled world.memory task.path ≢ None))

abbrev pub TouchesRecord : Options → Task → World → Type 0
TouchesRecord options task world = TouchesRecordIn options task world (early_case task world.folder)

-- the state between two executions: the world, and how often the device has failed
pub record WorldState : Type 0 where
  pub world : World
  pub failures : ℕ

-- which faults of the machine may end the execution of a task that begins at this moment and leaves this
-- state
abbrev pub May : Type 1
May = Task → Moment → WorldState → Fault → Type 0

-- The rules of a build: what the kinds mean, its options, what the machine may do, and the plan.
pub record Rules : Type 1 where
  pub kinds : Kinds
  pub options : Options
  pub may : May
  pub plan : Plan

-- a fault of the machine that may occur in the execution of the task
abbrev pub IsOfMachine : Rules → Moment → Task → Outcome → WorldState → Type 0
IsOfMachine rules moment task outcome new =
    (fault : Fault) × rules.may task moment new fault × (outcome ≡ outcomes.Failed fault)

-- the execution of a started task: its outcome by the cases, or a fault of the machine
pub record StartedExecution (rules : Rules) (moment : Moment) (task : Task) (report : TaskReport)
    (new : WorldState) : Type 0 where
  pub label : IsOutcomeOf rules.kinds rules.options rules.plan task moment report.outcome
      ⊎ IsOfMachine rules moment task report.outcome new
  pub leaves : Leaves rules.kinds rules.options task moment.world report.outcome new.world
  pub prints : Prints rules.kinds rules.options task moment.world report.outcome report.lines
  -- the device failed elsewhere than at its outputs: its inputs were being read, and nothing had begun
  pub reading : (place : Place) → report.outcome ≡ outcomes.Failed (faults.Device place)
      → is_output_of task place ≡ false → new.world ≡ moment.world
  -- a failed task that printed had begun its run
  pub begun : (fault : Fault) → report.outcome ≡ outcomes.Failed fault → is_empty report.lines ≡ false
      → HadBegun rules.kinds rules.options task fault moment.world new.world

-- a task that does not start
pub record PassedOver (old : World) (report : TaskReport) (new : World) : Type 0 where
  pub outcome : report.outcome ≡ outcomes.NotRun
  pub no_lines : report.lines ≡ []
  pub unchanged : new ≡ old

-- the execution of a planned task: it starts and is executed, or is passed over
abbrev pub Execution : Rules → Moment → Planned → TaskReport → WorldState → Type 0
Execution rules moment planned report new =
    (report.path ≡ planned.task.path) × (report.has_actions ≡ not (is_empty planned.task.actions))
    × ((DoesStart rules.options rules.plan moment planned × StartedExecution rules moment planned.task report
    new)
    ⊎ ((¬ DoesStart rules.options rules.plan moment planned) × PassedOver moment.world report new.world))

-- What a build may assume of contents: that no two of them share a digest, or nothing.
abbrev pub Guard : Type 1
Guard = List Bytes → Type 0

-- Files differ only at the task's output places; and where the contents so far satisfy the guard, this is the
-- execution of the task.
pub record GuardedExecution (rules : Rules) (is_assumed : Type 0) (moment : Moment) (planned : Planned)
    (report : TaskReport) (new : WorldState) : Type 0 where
  pub folder : IsFolder new.world.folder.files
  pub files : DiffersOnlyAt (is_output_of planned.task) moment.world.folder.files new.world.folder.files
  pub special : new.world.folder.special ≡ moment.world.folder.special
  pub count : moment.failures ≤ new.failures
  pub execution : is_assumed → Execution rules moment planned report new

abbrev pub moment_after : Moment → TaskReport → WorldState → Moment
moment_after moment report new =
    record {
      world = new.world;
      outcomes = moment.outcomes ++ (report.path, report.outcome) ∷ [];
      failures = new.failures;
    }

-- The tasks are executed in the order of the plan, each in the world that the one before it left.
abbrev pub Executions : Rules → Guard → List Bytes → List Planned → Moment → List TaskReport → WorldState
    → Type 0
Executions rules assumed observed [] moment [] new = (new.world ≡ moment.world)
    × (moment.failures ≤ new.failures)
Executions rules assumed observed [] moment (report ∷ reports) new = ⊥
Executions rules assumed observed (planned ∷ rest) moment [] new = ⊥
Executions rules assumed observed (planned ∷ rest) moment (report ∷ reports) new =
    (next : WorldState)
    × GuardedExecution rules (assumed (observed ++ folder_contents moment.world)) moment planned report next
    × Executions rules assumed (observed ++ folder_contents moment.world)
    rest (moment_after moment report next) reports new

-- in a dry run each scheduled task is reported as skipped
abbrev pub dry_reports : Plan → List TaskReport
dry_reports plan =
    map (λ planned. record {
      path = planned.task.path;
      outcome = outcomes.Skipped;
      has_actions = not
          (is_empty planned.task.actions);
      lines = [];
    }) plan

-- the moment before the first execution
abbrev pub first_moment : WorldState → Moment
first_moment old = record { world = old.world; outcomes = []; failures = old.failures }

-- A build of the plan, from the state before it to the state after it.
abbrev pub Builds : Rules → Guard → List Bytes → WorldState → List TaskReport → WorldState → Type 0
Builds rules assumed observed old reports new =
    (IsTrue rules.options.dry_run × (reports ≡ dry_reports rules.plan) × (new.world ≡ old.world))
    ⊎ ((rules.options.dry_run ≡ false) × Executions rules assumed observed rules.plan (first_moment old)
    reports
    new)

-- ---- What listeners are notified of

-- for each started task its start, then its end with its outcome; in a dry run nothing
abbrev pub heard_of : Bool → List TaskReport → List Heard
heard_of true reports = []
heard_of false reports =
    flat_map
    (λ report. if is_started report.outcome
    then heard.Start report.path ∷ heard.End report.path report.outcome ∷ [] else []) reports
