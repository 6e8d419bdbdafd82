-- What a build promises, and a run of many.
use Rattle.std.specs.Prelude.{is_some, map, ℕ, ◌≡◌, ◌≤◌, ◌+◌, ◌-◌, ◌^◌, ◌↔◌, Bool, true, false, not, cond}
use Rattle.std.specs.Prelude.{◌⊎◌, ◌||◌, Some, None, List, [], ◌∷◌, ◌++◌, length, bytes_eq, Option, Result}
use Rattle.std.specs.Prelude.{Ok, Err, IsTrue, ⊤, min}
use Rattle.std.specs.List.{AllByRecursion, list_any, count_by, items_where_true, AllZip}
use Rattle.gb_report.specs.declared.fault.Fault.{Fault}
use Rattle.gb_report.specs.declared.fault.Fault.TheVariants as faults
use Rattle.gb_report.specs.declared.report.Outcome.{Outcome}
use Rattle.gb_report.specs.declared.report.Outcome.TheVariants as outcomes
use Rattle.gb_report.specs.declared.report.Report.{Report}
use Rattle.gb_report.specs.declared.report.Heard.{Heard}
use Rattle.gb_semantics.specs.declared.events.Event.{Event}
use Rattle.gb_semantics.specs.declared.events.Event.TheVariants as events
use Rattle.gb_semantics.specs.declared.events.Answer.{Answer}
use Rattle.gb_semantics.specs.declared.events.Answer.TheVariants as answers
use Rattle.gb_semantics.specs.declared.events.Invocation.{Invocation}
use Rattle.gb_folder.specs.Files.{Tearing, is_empty, Place, Bytes, Files, Contents, files_where}
use Rattle.gb_folder.specs.Files.{with_file, is_own, DiffersOnlyAt}
use Rattle.gb_core.specs.Place.{is_under}
use Rattle.gb_plan.specs.Task.{Text, Path}
use Rattle.gb_semantics.specs.Kinds.{Name, Kind, Kinds}
use Rattle.gb_action.specs.Meanings.{Meanings, makes_of, prints_of, shape_of}
use Rattle.gb_plan.specs.Ready.{Rows}
use Rattle.gb_semantics.specs.Memory.{Memory}
use Rattle.gb_plan.specs.Graph.{Registry, IsRegistry, build_folder}
use Rattle.gb_semantics.specs.Execution.{Guard, heard_of}
use Rattle.gb_history.specs.Record.{Record}
use Rattle.gb_semantics.specs.TrueRecord.{RecordTexts, IsTextOfNoRecord, AreCollisionFree}
use Rattle.gb_semantics.specs.TrueRecord.{HoldsTrue, outside, memory_contents}
use Rattle.gb_core.specs.Path.{is_task_path}
use Rattle.gb_semantics.specs.Edits.{Shown}
use Rattle.gb_semantics.specs.Events.{Setting, State, Step, world_in}

-- ---- The tables of an invocation

-- the kind of what is stored under a name
abbrev pub kind_at : {S : Type 0} → Meanings S → Name × S → Kind
kind_at meanings row = record { name = row.0; version = meanings.version row.1 }

-- what is stored under a name has the meaning that the kinds give it
pub record AgreesAt {S : Type 0} (meanings : Meanings S) (kinds : Kinds) (row : Name × S) : Type 0 where
  pub makes : kinds.makes (kind_at meanings row) ≡ makes_of meanings row.1
  pub prints : kinds.prints (kind_at meanings row) ≡ prints_of meanings row.1
  pub writes : kinds.writes (kind_at meanings row) ≡ is_some (shape_of meanings row.1).out
  pub incremental : kinds.incremental (kind_at meanings row) ≡ (shape_of meanings row.1).incremental

-- the tables agree with the kinds
abbrev pub Agrees : {S : Type 0} → Meanings S → Rows S → Kinds → Type 0
Agrees meanings rows kinds = AllByRecursion (AgreesAt meanings kinds) rows

-- what scripts register, by the files of a folder and the values of `-P`: a registry, or their first fault
abbrev pub Registering : Type 1
Registering = Files → List (Name × Text) → Result Registry Fault → Type 0

-- what scripts register is a registry, whatever the folder's contents
abbrev pub AreRegistries : Registering → Type 0
AreRegistries registers =
    (files : Files) (properties : List (Name × Text)) (registry : Registry)
    → registers files properties (Ok registry) → IsRegistry registry

-- ---- The device

-- what the tool itself leaves at the place of a task's record: the text of a record, or nothing
abbrev pub IsOfTool : RecordTexts → Path → Option Bytes → Type 0
IsOfTool says path None = ⊤
IsOfTool says path (Some bytes) = (said : Record) × says path said bytes

-- Where the tool's write or removal was stopped, the old text is left, the new one, none, or one that is no
-- record of its task.
abbrev pub TornWritesAreDetected : RecordTexts → (Path → Place) → Tearing → Type 0
TornWritesAreDetected says record_place may_leave =
    (path : Path) (old new left : Option Bytes) → IsTrue (is_task_path path) → IsOfTool says path new
    → may_leave (record_place path) old new left →
    (left ≡ old) ⊎ (left ≡ new) ⊎ IsTextOfNoRecord says path left

abbrev pub is_of_device : Fault → Bool
is_of_device (faults.Device place) = true
is_of_device other = false

abbrev pub failed_by_device : Outcome → Bool
failed_by_device (outcomes.Failed fault) = is_of_device fault
failed_by_device other = false

-- how many faults in a result are attributed to the device
abbrev pub times_attributed : Answer → ℕ
times_attributed answers.Edited = 0
times_attributed (answers.Refused fault) = cond (is_of_device fault) 1 0
times_attributed (answers.Built report) = count_by (λ task. failed_by_device task.outcome) report.tasks
times_attributed (answers.NotBuilt fault) = cond (is_of_device fault) 1 0

abbrev pub times_attributed_in_all : List Answer → ℕ
times_attributed_in_all [] = 0
times_attributed_in_all (answer ∷ rest) = times_attributed answer + times_attributed_in_all rest

-- The device failed at least so often between these counts. A count at its last value shows no more.
abbrev pub HasFailed : ℕ → ℕ → ℕ → Type 0
HasFailed times before after = (before + times ≤ after) ⊎ (2 ^ 64 - 1 ≤ after)

-- ---- What is outside of the world

-- at or under `.gb` or a project's build folder
abbrev pub is_of_build : List Path → Place → Bool
is_of_build projects place =
    is_own place || list_any (λ project. is_under place (build_folder project)) projects

-- What no build changes, whatever fails: files elsewhere than in `.gb` and in the build folders of the
-- projects.
abbrev pub KeepsElsewhere : Registry → Contents → Contents → Type 0
KeepsElsewhere registry old new =
    DiffersOnlyAt (is_of_build registry.projects) old.files new.files × (new.special ≡ old.special)

-- a refused edit changes nothing; where the device failed, it changes at most the edit's place
abbrev pub RefusedEditKeeps : Place → Fault → Contents → Contents → Type 0
RefusedEditKeeps place (faults.Device at) old new =
    DiffersOnlyAt (bytes_eq place) old.files new.files × (new.special ≡ old.special)
RefusedEditKeeps place fault old new = new ≡ old

-- What an event may change, by its result: a done edit what it says, a loss `.gb`, a build what a build may
-- change, and a refusal nothing.
abbrev pub EventKeeps : Registering → Event → Answer → Contents → Contents → Type 0
EventKeeps registers (events.Put place bytes) answers.Edited old new =
    new ≡ record old { files = with_file old.files place bytes }
EventKeeps registers (events.Put place bytes) (answers.Refused fault) old new =
    RefusedEditKeeps place fault old new
EventKeeps registers (events.Remove place) answers.Edited old new =
    new ≡ record old { files = files_where (λ other. not (bytes_eq place other)) old.files }
EventKeeps registers (events.Remove place) (answers.Refused fault) old new =
    RefusedEditKeeps place fault old new
EventKeeps registers events.Lost answer old new =
    DiffersOnlyAt is_own old.files new.files × (new.special ≡ old.special)
EventKeeps registers (events.Invoke invocation) (answers.Built report) old new =
    (registry : Registry) × registers (outside old).files invocation.properties (Ok registry)
    × KeepsElsewhere registry old new
EventKeeps registers event answer old new = new ≡ old

abbrev pub AllKeepElsewhere : Registering → List Event → List Answer → Contents → Contents → Type 0
AllKeepElsewhere registers (event ∷ rest) (answer ∷ others) old new =
    (mid : Contents) × EventKeeps registers event answer old mid
    × AllKeepElsewhere registers rest others mid new
AllKeepElsewhere registers events answered old new = new ≡ old

-- ---- Any list of events

-- nothing was remembered when the event began, or no two of the contents share a digest
abbrev pub IsClear : Setting → Memory → Guard
IsClear setting remembered contents = IsTrue (is_empty remembered) ⊎ AreCollisionFree setting.digest contents

abbrev pub contents_outside : Contents → List Bytes
contents_outside folder = map (λ file. file.1) (outside folder).files

abbrev pub HoldsMemory : Setting → Contents → Memory → Type 0
HoldsMemory setting folder remembered =
    HoldsTrue setting.kinds setting.digest setting.says setting.record_place folder remembered

-- the condition so far, and the one that an event from this state adds to it, for these contents
abbrev pub StillClear : Setting → Type 0 → State → Guard
StillClear setting clear old contents = clear × IsClear setting old.remembered contents

-- all contents so far once the event has led from one state to another
abbrev pub observed_with : List Bytes → State → State → List Bytes
observed_with observed old new = observed ++ contents_outside old.contents ++ contents_outside new.contents

-- A run went through these states, one after each event, and the folder at its end shows the last one. Each
-- event is a step, where the contents so far are clear (`IsClear`). After each event the folder holds the
-- records of what is remembered, and what is remembered is true. So a state is what led to it, while all is
-- clear.
abbrev pub GoesThrough : Setting → Type 0 → List Bytes → State → List State → List Event → List Answer → Shown
    → Type 0
GoesThrough setting clear observed old [] [] [] end =
    (old.failures ≤ end.failures) × (old.contents ≡ end.contents)
GoesThrough setting clear observed old (next ∷ states) (event ∷ rest) (answer ∷ others) end =
    (old.failures ≤ next.failures)
    × Step setting (StillClear setting clear old) observed old event answer next
    × (StillClear setting clear old (observed_with observed old next)
    → HoldsMemory setting next.contents next.remembered)
    × GoesThrough setting (StillClear setting clear old (observed_with observed old next))
    (observed ++ contents_outside old.contents) next states rest others end
GoesThrough setting clear observed old states rest others end = ⊥

-- the run went through some states
abbrev pub RunHolds : Setting → Type 0 → List Bytes → State → List Event → List Answer → Shown → Type 0
RunHolds setting clear observed old all answered end =
    (states : List State) × GoesThrough setting clear observed old states all answered end

-- A run of the events went through these states from a first one; its records count as contents so far.
abbrev pub WentThrough : Setting → State → List State → List Event → List Answer → Shown → Type 0
WentThrough setting start states all answered end =
    GoesThrough setting ⊤ (memory_contents (world_in start)) start states all answered end

-- the state of a folder that shows this, where this is remembered
abbrev pub state_of : Shown → Memory → State
state_of shown remembered =
    record { contents = shown.contents; remembered = remembered; failures = shown.failures }

-- A run of the events holds for any true records that the old folder holds.
abbrev pub EventsHold : Setting → Shown → List Event → List Answer → Shown → Type 0
EventsHold setting old all answered end =
    (remembered : Memory) → HoldsMemory setting old.contents remembered →
    (states : List State) × WentThrough setting (state_of old remembered) states all answered end

-- ---- One invocation

abbrev pub answer_of : Result Report Fault → Answer
answer_of (Ok report) = answers.Built report
answer_of (Err fault) = answers.NotBuilt fault

abbrev pub InvocationHolds : Setting → Shown → Invocation → Result Report Fault → Shown → Type 0
InvocationHolds setting old invocation result end =
    EventsHold setting old (events.Invoke invocation ∷ []) (answer_of result ∷ []) end

-- ---- Listeners

-- the notifications that a listener has received, and how often it has refused a call
abbrev pub Ear : Type 0
Ear = List Heard × ℕ

-- the count of refusals after so many more: it stops at its last value
abbrev pub counted : ℕ → ℕ → ℕ
counted before times = before + min times (2 ^ 64 - 1 - before)

-- It has received all notifications, in their order, and refused none of them.
abbrev pub HearsAll : List Heard → Ear → Ear → Type 0
HearsAll reported old new = new ≡ (old.0 ++ reported, old.1)

-- It has received the notifications in their order, except for the calls that it refused, and has counted
-- each of those.
abbrev pub HearsSome : List Heard → Ear → Ear → Type 0
HearsSome reported old new =
    (kept : List Bool) × (length kept ≡ length reported)
    × (new ≡ (old.0 ++ items_where_true kept reported, counted old.1 (count_by not kept)))

-- Each listener has been notified of the build, except for the calls that it refused. The report shows a
-- refusal exactly where one of them refused a call.
pub record HaveHeard (report : Report) (old new : List Ear) : Type 0 where
  pub each : AllZip (HearsSome (heard_of report.dry_run report.tasks)) old new
  pub refused : report.listener_refused ≡ false
      ↔ AllZip (HearsAll (heard_of report.dry_run report.tasks)) old new

-- listeners have been notified of the builds among the results, one after another, and of nothing else
abbrev pub HaveHeardAll : List Answer → List Ear → List Ear → Type 0
HaveHeardAll [] old new = new ≡ old
HaveHeardAll (answers.Built report ∷ rest) old new =
    (mid : List Ear) × HaveHeard report old mid × HaveHeardAll rest mid new
HaveHeardAll (answer ∷ rest) old new = HaveHeardAll rest old new
