-- What success means, as a law of the definitions.
use Rattle.std.specs.Prelude.{ℕ, ◌≡◌, false, List, Some, Ok, IsTrue, ⊤, ◌++◌}
use Rattle.std.specs.List.{list_any, list_all, AllByRecursion}
use Rattle.gb_report.specs.declared.report.Options.{Options}
use Rattle.gb_report.specs.declared.report.Outcome.TheVariants as outcomes
use Rattle.gb_report.specs.declared.report.TaskReport.{TaskReport}
use Rattle.gb_folder.specs.Files.{Bytes, IsFolder, is_empty}
use Rattle.gb_semantics.specs.Kinds.{Kinds}
use Rattle.gb_semantics.specs.Memory.{folder_contents, output_files}
use Rattle.gb_plan.specs.Graph.{Request, Plan, IsPlan, IsSound}
use Rattle.gb_plan.specs.Task.{IsShaped}
use Rattle.gb_plan.specs.declared.task.TaskDeclaration.{TaskDeclaration as Task}
use Rattle.gb_report.specs.Outcome.{is_failed, is_started}
use Rattle.gb_semantics.specs.Execution.{May, Rules, WorldState, StartedExecution, Builds}
use Rattle.gb_semantics.specs.Label.{Moment}
use Rattle.gb_semantics.specs.Made.{made_of}
use Rattle.gb_semantics.specs.Tree.{trees_of}
use Rattle.gb_semantics.specs.Scratch.{from_scratch}
use Rattle.gb_semantics.specs.TrueRecord.{IsMade, AreCollisionFree}

-- whatever the machine may do
abbrev pub any_fault_comes : May
any_fault_comes task moment new fault = ⊤

abbrev pub any_rules : Kinds → Options → Plan → Rules
any_rules kinds options plan = record { kinds = kinds; options = options; may = any_fault_comes; plan = plan }

-- A build from true memory in which no task failed has started each task, and leaves what the plan makes from
-- scratch. Premise: no two of the contents so far, and of those before and after the build, share a digest.
abbrev pub SuccessIsFromScratch : Type 0
SuccessIsFromScratch =
    (kinds : Kinds) (options : Options) (digest : Bytes → List ℕ) (request : Request) (plan : Plan)
    (observed : List Bytes) (old new : WorldState) (reports : List TaskReport)
    → IsPlan request plan → AllByRecursion (λ planned. IsShaped planned.task) plan
    → IsFolder old.world.folder.files → AllByRecursion (λ entry. IsMade kinds entry.1) old.world.memory
    → list_any (λ report. is_failed report.outcome) reports ≡ false
    → AreCollisionFree digest (observed ++ folder_contents old.world ++ folder_contents new.world)
    → Builds (any_rules kinds options plan) (AreCollisionFree digest) observed old reports new
    → (options.dry_run ≡ false → IsTrue (list_all (λ report. is_started report.outcome) reports))
    × (from_scratch kinds options plan old.world.folder ≡ Some new.world.folder.files)

-- Whatever the result of a build, also where it stopped or failed: memory that was true is true after it,
-- over the same contents.
abbrev pub TruthIsKept : Type 0
TruthIsKept =
    (kinds : Kinds) (options : Options) (digest : Bytes → List ℕ) (plan : Plan) (observed : List Bytes)
    (old new : WorldState) (reports : List TaskReport)
    → IsSound plan → IsFolder old.world.folder.files
    → AllByRecursion (λ entry. IsMade kinds entry.1) old.world.memory
    → AreCollisionFree digest (observed ++ folder_contents old.world ++ folder_contents new.world)
    → Builds (any_rules kinds options plan) (AreCollisionFree digest) observed old reports new
    → AllByRecursion (λ entry. IsMade kinds entry.1) new.world.memory

-- Whatever else failed in a build: a task with actions that is up to date changes nothing, and its outputs
-- are what its actions make of the inputs that it found, if what is remembered is true.
abbrev pub UpToDateIsMade : Type 0
UpToDateIsMade =
    (kinds : Kinds) (options : Options) (plan : Plan) (moment : Moment) (task : Task) (report : TaskReport)
    (new : WorldState)
    → AllByRecursion (λ entry. IsMade kinds entry.1) moment.world.memory → is_empty task.actions ≡ false
    → report.outcome ≡ outcomes.UpToDate
    → StartedExecution (any_rules kinds options plan) moment task report new
    → (new.world ≡ moment.world)
    × (made_of kinds task.actions task.values (trees_of task moment.world.folder.files) task.outputs
    ≡ Ok (output_files task new.world.folder.files))
