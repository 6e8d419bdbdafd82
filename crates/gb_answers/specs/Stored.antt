-- Records stay true on any folder that keeps its calls, whoever else writes there.
use Rattle.std.specs.Prelude.{ℕ, ◌≡◌, ◌++◌, true, false, List, [], ◌∷◌, map, Result, Ok, Err, Contains}
use Rattle.std.specs.Prelude.{IsTrue, ⊤}
use Rattle.std.specs.List.{AllByRecursion, AllZip, flat_map}
use Rattle.sha2.specs.Sha256.{sha256}
use Rattle.gb_action.specs.Files.{Trees}
use Rattle.gb_action.specs.declared.output_files.OutputFiles.{OutputFiles}
use Rattle.gb_build.specs.InvocationAsked.{InvocationRequests}
use Rattle.gb_build.specs.Registering.{setting_of}
use Rattle.gb_core.specs.Path.{is_task_path}
use Rattle.gb_folder.specs.Calls.{Call, Lists, Reads, ReadsPart, Writes, Removes, Device}
use Rattle.gb_folder.specs.Files.{Bytes, Contents, Place, is_empty, is_own}
use Rattle.gb_folder.specs.Semantics.{Answer}
use Rattle.gb_history.specs.Places.{record_place}
use Rattle.gb_history.specs.Record.{Record}
use Rattle.gb_label.specs.ReadingAnswered.{AreInputsRead, AreOutputsRead}
use Rattle.gb_logged.specs.Logged.{LogsCalls}
use Rattle.gb_semantics.specs.Events.{has_failure, max_record}
use Rattle.gb_semantics.specs.Every.{IsFromScratch}
use Rattle.gb_semantics.specs.Headline.{Agrees, contents_outside}
use Rattle.gb_semantics.specs.Kinds.{Kinds}
use Rattle.gb_semantics.specs.Memory.{Entry}
use Rattle.gb_semantics.specs.TrueRecord.{AreCollisionFree, IsMade, contents_of}
use Rattle.gb_semantics.specs.declared.events.Invocation.{Invocation}
use Rattle.gb_plan.specs.Task.{Path, given_files, given_outputs}
use Rattle.gb_plan.specs.declared.plan.Planned.{Planned}
use Rattle.gb_plan.specs.declared.task.TaskDeclaration.{TaskDeclaration as Task}
use Rattle.gb_records.specs.Said.{IsSaidOf, IsText}
use Rattle.gb_registry.specs.Tables.{Tables}
use Rattle.gb_report.specs.declared.fault.Fault.{Fault}
use Rattle.gb_report.specs.declared.report.Outcome.TheVariants as outcomes
use Rattle.gb_report.specs.declared.report.Report.{Report}
use Rattle.gb_report.specs.declared.report.TaskReport.{TaskReport}
use Rattle.gb_task.specs.Truth.{AreMadeOf}
use Rattle.gb_answers.specs.Answering.{AnswersSoundly}

-- ---- What calls returned and wrote

-- the content that a read of a whole file returned, or that a write was to put
abbrev pub content_of : Call → List Bytes
content_of (Lists root answer) = []
content_of (Reads place limit (Ok bytes)) = bytes ∷ []
content_of (Reads place limit (Err fault)) = []
content_of (ReadsPart place at len answer) = []
content_of (Writes place bytes limit answer) = bytes ∷ []
content_of (Removes place answer) = []

-- The bytes are the text of a true record, and this is its place: an entry whose files are what its actions
-- make of its inputs, all of whose contents are among these.
pub record IsTrueText (kinds : Kinds) (all : List Bytes) (place : Place) (bytes : Bytes) : Type 0 where
  pub path : Path
  pub is_path : IsTrue (is_task_path path)
  pub at : place ≡ record_place path
  pub run : Record
  pub text : IsText path run bytes
  pub entry : Entry
  pub is_made : IsMade kinds entry
  pub said : IsSaidOf run entry
  pub among : AllByRecursion (Contains all) (contents_of entry)

-- what a call was to write among the tool's own files, whatever it answered, is a true record
abbrev pub StoresTruth : Kinds → List Bytes → Call → Type 0
StoresTruth kinds all (Writes place bytes limit answer) =
    is_own place ≡ true → IsTrueText kinds all place bytes
StoresTruth kinds all other = ⊤

-- A record that one of these calls returned is one that an earlier call was to write.
abbrev pub ReadsOnly : List Call → List Call → Type 0
ReadsOnly earlier calls =
    (path : Path) (run : Record) (bytes : Bytes) → IsText path run bytes
    → Contains calls (Reads (record_place path) max_record (Ok bytes))
    → (limit : ℕ) × (answer : Answer) × Contains earlier (Writes (record_place path) bytes limit answer)

-- the same for each build, by the calls of those before it
abbrev pub EachReadsOnly : List Call → List (List Call) → Type 0
EachReadsOnly earlier [] = ⊤
EachReadsOnly earlier (calls ∷ builds) = ReadsOnly earlier calls × EachReadsOnly (earlier ++ calls) builds

-- ---- Builds

module _ {F : Type 0} (device : Device F)
    (log : F → List Call) (kinds : Kinds) where
  -- Up to some state, calls among these, without a change between them, had returned trees of the task's
  -- inputs and files of its outputs, and the files are what its actions make of the trees.
  pub record HadRight (calls : List Call) (task : Task) : Type 0 where
    pub since : F
    pub at : F
    pub later : List Call
    pub during : calls ≡ log at ++ later
    pub trees : Trees
    pub inputs : AreInputsRead device since at task trees
    pub named : map (λ tree. tree.0) trees ≡ given_files task.files
    pub observed : List OutputFiles
    pub outputs : AreOutputsRead device since at task observed
    pub formed : map (λ output. (output.name, output.form)) observed ≡ given_outputs task.outputs
    pub made : AreMadeOf kinds task trees observed

  -- where a task that has actions is up to date, it had the right files
  abbrev pub IsCurrentRight : List Call → Planned → TaskReport → Type 0
  IsCurrentRight calls planned report =
      report.outcome ≡ outcomes.UpToDate → is_empty planned.task.actions ≡ false → HadRight calls planned.task

module _ {F M N Z S A : Type 0} (device : Device F) (log : F → List Call) (tables : Tables M N Z S A)
    (kinds : Kinds) where
  -- A build on a folder that keeps its calls, and has kept none before it. Its process may have been stopped:
  -- then only the first ones of its calls were made.
  pub record BuildWithLog : Type 0 where
    pub invocation : Invocation
    pub answer : Result Report Fault
    pub old : F
    pub new : F
    pub begins : log old ≡ []
    pub requests : InvocationRequests device tables invocation answer old new
    -- The calls that were made before its process was stopped, and the others, which it would have made. A
    -- build counts as ended if there are no others. A call during which it was stopped may be taken as made,
    -- with any answer.
    pub made : List Call
    pub unmade : List Call
    pub cut : log new ≡ made ++ unmade

  -- there was such a build, it ended with this answer, and this is the folder after it
  abbrev pub WasLogged : Invocation → Result Report Fault → F → Type 0
  WasLogged invocation answer new =
      (build : BuildWithLog) × (build.invocation ≡ invocation) × (build.answer ≡ answer) × (build.new ≡ new)
      × (build.unmade ≡ [])

  -- this holds for each task of the plan
  abbrev pub AreCurrentRight : (invocation : Invocation) (answer : Result Report Fault) (old new : F)
      → InvocationRequests device tables invocation answer old new → Type 0
  AreCurrentRight invocation (Err fault) old new requests = ⊤
  AreCurrentRight invocation (Ok report) old new builds =
      AllZip (IsCurrentRight device log kinds (log new)) builds.by.plan report.tasks

  -- In contents that answer its calls, a build in which no task failed left what is made from scratch on the
  -- first ones, if no two contents there or of any of the calls share a digest.
  abbrev pub LeftFromScratch : List Bytes → BuildWithLog → Type 0
  LeftFromScratch all build =
      (report : Report) → build.answer ≡ Ok report → has_failure report ≡ false → (start end : Contents)
      → AnswersSoundly (device.may_leave build.old) start (log build.new) end
      → AreCollisionFree sha256 (all ++ contents_outside start ++ contents_outside end)
      → IsFromScratch (setting_of tables kinds (device.may_leave build.old)) start build.invocation report end

  -- The records that the build was to store are true. If it ended, what it reported as up to date was right,
  -- and what it left is from scratch.
  pub record IsTruthful (all : List Bytes) (build : BuildWithLog) : Type 0 where
    pub stored : AllByRecursion (StoresTruth kinds all) build.made
    pub current : build.unmade ≡ []
        → AreCurrentRight build.invocation build.answer build.old build.new build.requests
    pub left : build.unmade ≡ [] → LeftFromScratch all build

-- Of any folder that keeps its calls: builds one after another, whatever others write in between, and whether
-- the process of one was stopped or not. The calls are those that were made. If each record that a build read
-- is one that an earlier one was to store, and no two contents that calls returned or were to write share a
-- digest, each build is truthful. No record is assumed to be true.
abbrev pub RecordsStayTrue : {F M N Z S A : Type 0} → Device F
    → Tables M N Z S A → Type 0
RecordsStayTrue {F = F} device tables =
    (log : F → List Call) → LogsCalls device.allowed log
    → (kinds : Kinds) → Agrees tables.shapes tables.kinds kinds
    → (builds : List (BuildWithLog device log tables kinds))
    → let kept = map (λ build. build.made) builds in
    let all = flat_map (λ calls. flat_map content_of calls) kept in
    AreCollisionFree sha256 all → EachReadsOnly [] kept
    → AllByRecursion (IsTruthful device log tables kinds all) builds
