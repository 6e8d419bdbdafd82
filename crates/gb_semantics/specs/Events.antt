-- What may happen to a world (edits, the loss of what is remembered, and invocations), and the result of
-- each.
use Rattle.std.specs.Prelude.{ℕ, ◌≡◌, ◌≢◌, ◌*◌, Bool, false, not, ◌&&◌, ◌||◌, ◌⊎◌, List, [], ◌++◌, length}
use Rattle.std.specs.Prelude.{bytes_eq, codes, nat_lt, Some, None, Option, Result, Ok, Err, IsTrue, ⊤}
use Rattle.std.specs.List.{list_any, list_all}
use Rattle.gb_report.specs.declared.fault.Fault.{Fault}
use Rattle.gb_report.specs.declared.fault.Fault.TheVariants as faults
use Rattle.gb_report.specs.declared.report.Options.{Options}
use Rattle.gb_report.specs.declared.report.Report.{Report}
use Rattle.gb_semantics.specs.declared.events.Event.{Event}
use Rattle.gb_semantics.specs.declared.events.Event.TheVariants as events
use Rattle.gb_semantics.specs.declared.events.Answer.{Answer}
use Rattle.gb_semantics.specs.declared.events.Answer.TheVariants as answers
use Rattle.gb_semantics.specs.declared.events.Invocation.{Invocation}
use Rattle.gb_folder.specs.Files.{Tearing, is_empty, Place, Bytes, Files, Contents, file_at, files_where}
use Rattle.gb_folder.specs.Files.{is_own, is_blocked, DiffersOnlyAt, HasRisen}
use Rattle.gb_core.specs.Place.{is_under, is_place}
use Rattle.gb_plan.specs.Task.{Text, Path, roots_of, is_output_of}
use Rattle.gb_semantics.specs.Kinds.{Name, Kinds}
use Rattle.gb_plan.specs.declared.task.TaskDeclaration.{TaskDeclaration as Task}
use Rattle.gb_semantics.specs.Made.{made, with_outputs}
use Rattle.gb_semantics.specs.Tree.{has_no_source}
use Rattle.gb_semantics.specs.Memory.{Memory, World, recalled, entry_of, folder_contents}
use Rattle.gb_report.specs.Outcome.{is_failed, is_started}
use Rattle.gb_plan.specs.Graph.{Registry, Request, Plan, IsPlan}
use Rattle.gb_plan.specs.Refusal.{request_of, IsRefused}
use Rattle.gb_core.specs.Path.{is_task_path}
use Rattle.gb_semantics.specs.Edits.{Shown, PutStep, RemoveStep, LossStep}
use Rattle.gb_semantics.specs.Scratch.{from_scratch}
use Rattle.gb_tree.specs.Property.{last_segment}
use Rattle.gb_semantics.specs.Execution.{May, Rules, Guard, Builds, TouchesRecord, IsWritten}
use Rattle.gb_history.specs.Record.{Record}
use Rattle.gb_semantics.specs.TrueRecord.{RecordTexts, record_of, outside}

-- The parameters of a run: what the kinds mean; what scripts register with the values of `-P`, or their first
-- fault; how records are read, where each is stored, what its text is, and the digest of contents; and what
-- a stopped write or removal may leave.
pub record Setting : Type 1 where
  pub kinds : Kinds
  pub registers : Files → List (Name × Text) → Result Registry Fault → Type 0
  pub digest : Bytes → List ℕ
  pub says : RecordTexts
  pub record_place : Path → Place
  pub record_text : Path → Record → Bytes
  pub may_leave : Tearing

-- The state between two events: the folder, what is remembered, and how often the device has failed.
pub record State : Type 0 where
  pub contents : Contents
  pub remembered : Memory
  pub failures : ℕ

-- the world of a state
abbrev pub world_in : State → World
world_in state = record { folder = outside state.contents; memory = state.remembered }

abbrev pub shown_in : State → Shown
shown_in state = record { contents = state.contents; failures = state.failures }

-- the files in `.gb`
abbrev pub own_files : Contents → Files
own_files folder = files_where is_own folder.files

-- ---- Faults of the machine

abbrev pub max_record : ℕ
max_record = 64 * 1024 * 1024

-- the record of the task's run on these files is above its limit
abbrev pub is_record_too_long : Setting → Task → Files → Bool
is_record_too_long setting task files = too_long (made setting.kinds task files)
  where
    too_long : Result Files (List Fault) → Bool
    too_long (Ok new) = not (is_empty task.outputs) && not (has_no_source task files)
        && nat_lt max_record
        (length (setting.record_text task.path
        (record_of setting.digest (entry_of task (with_outputs task files new)))))
    too_long (Err hindrances) = false

-- no file can be at the place of the task's record: it is no place, or another file is in the way
abbrev pub is_record_shut_out : Setting → Files → Path → Bool
is_record_shut_out setting own path =
    not (is_place (setting.record_place path)) || is_blocked own (setting.record_place path)

-- The place is one that the task reads or writes: at or under a root of its file properties, or an output.
-- A task that is skipped or has no actions has none.
abbrev pub is_touched_by : Task → Place → Bool
is_touched_by task place =
    task.runs && not (is_empty task.actions)
    && (list_any (is_under place) (roots_of task) || is_output_of task place)

-- what is at a place at some time of the task's run: nothing, what was there before, or what an action writes
abbrev pub ExistsInRun : Kinds → Task → Files → Place → Option Bytes → Type 0
ExistsInRun kinds task old place None = ⊤
ExistsInRun kinds task old place (Some bytes) =
    (file_at old place ≡ Some bytes) ⊎ IsWritten kinds task old place bytes

-- what the device may leave of what is at a place in the run and what is being written there
abbrev pub IsTornInRun : Setting → Task → Files → Place → Option Bytes → Type 0
IsTornInRun setting task old place left =
    (existed : Option Bytes) × (next : Option Bytes) × ExistsInRun setting.kinds task old place existed
    × ExistsInRun setting.kinds task old place next × setting.may_leave place existed next left

-- Which faults of the machine may end the execution of a task, where these files are in `.gb`. Out of memory:
-- at any time. The device: at a place of the task, where its failures rose in this execution, and the place
-- has what it had at some time of the run, or is torn. An unwritten record: where the execution touches the
-- record, and the device failed, no file can be there or the record is too long.
abbrev pub may_occur : Setting → Files → Options → May
may_occur setting own options task moment new faults.OutOfMemory = ⊤
may_occur setting own options task moment new (faults.Device place) =
    let old = moment.world.folder.files in
    let left = file_at new.world.folder.files place in
    HasRisen moment.failures new.failures × IsTrue (is_touched_by task place)
    × (ExistsInRun setting.kinds task old place left ⊎ IsTornInRun setting task old place left)
may_occur setting own options task moment new faults.HistoryNotWritten =
    TouchesRecord options task moment.world
    × (HasRisen moment.failures new.failures ⊎ IsTrue (is_record_shut_out setting own task.path)
    ⊎ IsTrue (is_record_too_long setting task moment.world.folder.files))
may_occur setting own options task moment new other = ⊥

-- the rules of a build of the plan, where these files are in `.gb`
abbrev pub rules_in : Setting → Files → Options → Plan → Rules
rules_in setting own options plan =
    record { kinds = setting.kinds; options = options; may = may_occur setting own options; plan = plan }

-- a fault of the device names this place, and its failures rose
abbrev pub IsDeviceFault : ℕ → ℕ → Place → Fault → Type 0
IsDeviceFault before after place fault = HasRisen before after × (fault ≡ faults.Device place)

-- ---- Invocations

abbrev pub has_failure : Report → Bool
has_failure report = list_any (λ task. is_failed task.outcome) report.tasks

-- The scripts of the folder give a registry, and the request has this plan.
pub record HasPlan (setting : Setting) (folder : Contents) (invocation : Invocation)
    (plan : Plan) : Type 0 where
  pub registry : Registry
  pub scripts : setting.registers folder.files invocation.properties (Ok registry)
  pub request : Request
  pub asked : request_of registry invocation.requested invocation.excluded ≡ Ok request
  pub planned : IsPlan request plan

-- these files in `.gb` differ only at the records of the plan's tasks
abbrev pub AreRecordsOf : Setting → Plan → Files → Files → Type 0
AreRecordsOf setting plan old new =
    DiffersOnlyAt
    (λ place. list_any (λ planned. bytes_eq place (setting.record_place planned.task.path)) plan) old new

-- each task in the report was started, except in a dry run
abbrev pub AreStarted : Report → Type 0
AreStarted report = report.dry_run ≡ false → IsTrue (list_all (λ task. is_started task.outcome) report.tasks)

-- A build from one state to another, where the contents so far satisfy the guard.
pub record IsBuild (setting : Setting) (assumed : Guard) (observed : List Bytes) (old : State)
    (invocation : Invocation) (report : Report) (new : State) : Type 0 where
  pub plan : Plan
  pub planned : HasPlan setting (outside old.contents) invocation plan
  pub dry_run : report.dry_run ≡ invocation.options.dry_run
  -- in `.gb` only the records of these tasks may differ
  pub elsewhere : AreRecordsOf setting plan (own_files old.contents) (own_files new.contents)
  -- in a dry run nothing there differs
  pub dry_keeps : IsTrue report.dry_run → own_files new.contents ≡ own_files old.contents
  pub builds : Builds (rules_in setting (own_files old.contents) invocation.options plan) assumed observed
      (record { world = world_in old; failures = old.failures }) report.tasks
      (record { world = world_in new; failures = new.failures })
  -- Where no task failed, each was started, and the folder is what the tasks make from scratch.
  pub success : assumed (observed ++ folder_contents (world_in old) ++ folder_contents (world_in new))
      → has_failure report ≡ false →
      AreStarted report × (from_scratch setting.kinds invocation.options plan (outside old.contents)
      ≡ Some (outside new.contents).files)

-- the request is refused for its names, or for the plan
abbrev pub IsRefusedBy : Registry → Invocation → Fault → Type 0
IsRefusedBy registry invocation fault =
    (request_of registry invocation.requested invocation.excluded ≡ Err fault)
    ⊎ ((request : Request) × (request_of registry invocation.requested invocation.excluded ≡ Ok request)
    × IsRefused request fault)

-- the place is one that a build reads before its first task: that of a script or, except in a dry run, one of
-- the tool's own
abbrev pub is_read_first : Options → Place → Bool
is_read_first options place =
    bytes_eq place (codes "settings.gb") || bytes_eq (last_segment place) (codes "build.gb")
    || (is_own place && not options.dry_run)

-- An invocation is refused for the first fault of the scripts, of the requested names, or of the plan; or out
-- of memory; or because the device failed, up to this count, while scripts or records were read.
abbrev pub IsNotBuilt : (Files → List (Name × Text) → Result Registry Fault → Type 0) → Shown → Invocation
    → Fault → ℕ → Type 0
IsNotBuilt registers old invocation fault after =
    registers (outside old.contents).files invocation.properties (Err fault)
    ⊎ ((registry : Registry) × registers (outside old.contents).files invocation.properties (Ok registry)
    × IsRefusedBy registry invocation fault)
    ⊎ (fault ≡ faults.OutOfMemory)
    ⊎ ((place : Place) × IsTrue (is_read_first invocation.options place)
    × IsDeviceFault old.failures after place fault)

-- ---- Losses

-- the records after a refused loss: a task is remembered as before where its record is as before, else not
abbrev pub KeepsWhatExists : Setting → State → State → Type 0
KeepsWhatExists setting old new = (path : Path) → IsTrue (is_task_path path) →
    ((file_at new.contents.files (setting.record_place path)
    ≡ file_at old.contents.files (setting.record_place path))
    × (recalled new.remembered path ≡ recalled old.remembered path))
    ⊎ ((file_at new.contents.files (setting.record_place path)
    ≢ file_at old.contents.files (setting.record_place path)) × (recalled new.remembered path ≡ None))

-- what is remembered after a loss: nothing; after a refused loss, the records that are as before
abbrev pub RemembersAfter : Setting → State → Answer → State → Type 0
RemembersAfter setting old answers.Edited new = new.remembered ≡ []
RemembersAfter setting old answer new = KeepsWhatExists setting old new

-- ---- Steps

abbrev pub InvokeStep : Setting → Guard → List Bytes → State → Invocation → Answer → State → Type 0
InvokeStep setting assumed observed old invocation (answers.Built report) new =
    IsBuild setting assumed observed old invocation report new
InvokeStep setting assumed observed old invocation (answers.NotBuilt fault) new =
    IsNotBuilt setting.registers (shown_in old) invocation fault new.failures × (new.contents ≡ old.contents)
    × (new.remembered ≡ old.remembered)
InvokeStep setting assumed observed old invocation answers.Edited new = ⊥
InvokeStep setting assumed observed old invocation (answers.Refused fault) new = ⊥

-- The event may have this result in the first state, and lead to the second.
abbrev pub Step : Setting → Guard → List Bytes → State → Event → Answer → State → Type 0
Step setting assumed observed old (events.Put place bytes) answer new =
    PutStep setting.may_leave place bytes (shown_in old) answer (shown_in new)
    × (new.remembered ≡ old.remembered)
Step setting assumed observed old (events.Remove place) answer new =
    RemoveStep setting.may_leave place (shown_in old) answer (shown_in new)
    × (new.remembered ≡ old.remembered)
Step setting assumed observed old events.Lost answer new =
    LossStep setting.may_leave (shown_in old) answer (shown_in new) × RemembersAfter setting old answer new
Step setting assumed observed old (events.Invoke invocation) answer new =
    InvokeStep setting assumed observed old invocation answer new
