-- The reply to `check`.
use Rattle.std.specs.Prelude.{ℕ, ◌≡◌, ◌⊎◌, ◌∷◌, ◌++◌, MatchResult, List, [], Result, Ok, Err}
use Rattle.std.specs.Prelude.{if◌then◌else◌, map, nat_eq, string_bytes}
use Rattle.gb_ask_command.specs.Faulty.{IsFaulty, IsTextFault}
use Rattle.gb_build.specs.Registering.{registers_in}
use Rattle.gb_build.specs.Scripts.{FolderDeclares}
use Rattle.gb_check.specs.All.{AreFindings}
use Rattle.gb_check.specs.Found.{IsOfWords, findings_text, unread_text}
use Rattle.gb_check.specs.Statement.{IsStatementSpot}
use Rattle.gb_check.specs.declared.findings.Problem.TheVariants as problems
use Rattle.gb_check.specs.declared.findings.Finding.{Finding}
use Rattle.gb_check.specs.declared.findings.Findings.{Findings}
use Rattle.gb_check.specs.declared.findings.Spot.{Spot}
use Rattle.gb_check.specs.declared.findings.Spot.TheVariants as spots
use Rattle.gb_cli.specs.Answered.{AreRefused, AskFor, Given}
use Rattle.gb_declare.specs.Registered.{registry_said}
use Rattle.gb_folder.specs.Files.{Contents, Files, Place, is_empty}
use Rattle.gb_semantics.specs.Events.{IsDeviceFault, IsNotBuilt}
use Rattle.gb_semantics.specs.declared.events.Invocation.{Invocation}
use Rattle.gb_plan.specs.Graph.{Plan, Registry, paths_of}
use Rattle.gb_plan.specs.Refusal.{IsScheduleFault}
use Rattle.gb_plan.specs.Task.{Text}
use Rattle.gb_query.specs.Inventory.{AreUnregistered}
use Rattle.gb_query.specs.Objects.{IsJsonOf}
use Rattle.gb_query.specs.declared.notation.Notation.{Notation}
use Rattle.gb_query.specs.declared.notation.Notation.TheVariants as notations
use Rattle.gb_registry.specs.Projects.{Path}
use Rattle.gb_registry.specs.Read.{IsRead}
use Rattle.gb_registry.specs.Source.{Source}
use Rattle.gb_registry.specs.Tables.{Tables}
use Rattle.gb_registry.specs.declared.first_fault.FaultAt.{FaultAt}
use Rattle.gb_report.specs.Fault.{fault_number}
use Rattle.gb_report.specs.declared.fault.Fault.{Fault}
use Rattle.gb_report.specs.declared.fault.Fault.TheVariants as faults
use Rattle.gb_script.specs.declared.script.Statement.{Statement}
use Rattle.gb_folder.specs.Faults.{IsOfMachine}
use Rattle.gb_ask_command.specs.CheckJson.{check_data}
use Rattle.gb_ask_command.specs.Reply.{Reply}
use Rattle.gb_ask_command.specs.Unread.{unread_values}

-- the findings, or why scripts or arguments cannot be read
abbrev pub CheckReply : Type 0
CheckReply = Result Findings Fault

-- ---- The output

-- faults, and then warnings
abbrev pub check_text : CheckReply → List ℕ
check_text (Ok found) = findings_text found.faults.items ++ findings_text found.warnings.items
check_text (Err fault) = unread_text fault

-- a line for each finding, or one value in JSON
abbrev pub IsCheckText : Notation → CheckReply → List ℕ → Type 0
IsCheckText notations.Lines reply text = text ≡ check_text reply
IsCheckText notations.Json reply text = IsJsonOf (check_data reply) text

-- the text, or that memory ran out for it
abbrev pub IsCheckWritten : Notation → CheckReply → Reply → Type 0
IsCheckWritten notation reply (Ok text) = IsCheckText notation reply (string_bytes text)
IsCheckWritten notation reply (Err fault) = fault ≡ faults.OutOfMemory

-- the exit status: 0 if there is no fault, 2 for arguments that request nothing known (96), and otherwise 1
abbrev pub check_status : CheckReply → ℕ
check_status (Ok found) = if is_empty found.faults.items then 0 else 1
check_status (Err fault) = if nat_eq (fault_number fault) 96 then 2 else 1

-- this exit status, or 1 if memory ran out for the text
abbrev pub written_status : ℕ → Reply → ℕ
written_status status (Ok text) = status
written_status status (Err fault) = 1

-- ---- Records of tasks that are not registered

abbrev pub unregistered_of : Path → Finding
unregistered_of path = record { spot = spots.Unknown; cause = problems.Unregistered path }

-- A warning for each of some tasks: if the contents of the folder are known, for exactly those that have
-- records in it and are not registered.
abbrev pub AreLeft : Type 0 → Contents → List Path → List Finding → Type 0
AreLeft known contents registered found =
    (left : List Path) × (known → AreUnregistered contents registered left)
    × (found ≡ map unregistered_of left)

-- ---- Silence

-- a refusal for lack of memory, for a device that failed, for a word that is requested or excluded, or for
-- the plan (60 to 63)
abbrev pub IsNotForATask : Registry → Invocation → ℕ → ℕ → Fault → Type 0
IsNotForATask registry invocation before after fault =
    (fault ≡ faults.OutOfMemory) ⊎ (((place : Place) × IsDeviceFault before after place fault)
    ⊎ (IsOfWords registry invocation.requested invocation.excluded fault
    ⊎ ((plan : Plan) × IsScheduleFault plan fault)))

module _ {M F Z S A : Type 0} (tables : Tables M F Z S A) where
  -- The theorem of silence, for builds of this folder with these values: whatever else is requested, no task
  -- and no word of `defaultTasks` causes a refusal.
  abbrev pub IsQuiet : Source → Contents → List (Text × Text) → Type 0
  IsQuiet source contents given =
      (invocation : Invocation) (failures after : ℕ) (fault : Fault) → invocation.properties ≡ given
      → IsNotBuilt (registers_in tables) (record { contents = contents; failures = failures })
      invocation fault after
      → IsNotForATask (registry_said tables source) invocation failures after fault

-- ---- A statement at fault

-- one fault at this statement, with its line, and no warnings
abbrev pub IsFindingAt : Type 0 → Files → FaultAt → Findings → Type 0
IsFindingAt known files at found =
    (spot : Spot) × IsStatementSpot known files at.project at.statement spot
    × (found.faults.items ≡ record { spot = spot; cause = problems.Fault at.fault } ∷ [])
    × (found.warnings.items ≡ [])

-- ---- The reply

module _ {M F Z S A : Type 0} (tables : Tables M F Z S A) (known : Type 0) where
  -- The findings for the statements of scripts, one script for each project. Warnings for values that nothing
  -- reads precede those for tasks, and warnings for records of tasks that are not registered follow.
  pub record AreFindingsOf (source : Source) (contents : Contents) (found : Findings) : Type 0 where
    pub scripts : List (Path × List Statement)
    pub are_scripts : IsRead source scripts
    pub in_tasks : Findings
    pub findings : AreFindings tables source.names known contents (registry_said tables source) scripts
        in_tasks
    pub left : List Finding
    pub are_left : AreLeft known contents (paths_of (registry_said tables source)) left
    pub faults : found.faults.items ≡ in_tasks.faults.items
    pub warnings : found.warnings.items
        ≡ unread_values scripts source.given ++ in_tasks.warnings.items ++ left

  -- The fault of a statement. If the contents of the folder are known, it is the first fault of its scripts,
  -- at the statement at which it arises.
  abbrev pub IsFoundAt : Files → Findings → Type 0
  IsFoundAt files found =
      (at : FaultAt) × (known → IsFaulty tables files at) × IsFindingAt known files at found

  pub record IsChecked (invocation : Invocation) (contents : Contents) (found : Findings) : Type 0 where
    pub source : Source
    pub said : known → FolderDeclares tables contents.files invocation.properties (Ok source)
    pub found_of : AreFindingsOf source contents found
    pub quiet : known → found.faults.items ≡ []
        → IsQuiet tables source contents invocation.properties

  -- The findings, for tasks or for a statement; or if the contents of the folder are known, a fault of the
  -- machine between these counts of failures, or that of a text that cannot be read. So the fault of a
  -- statement is always a finding, with its line.
  abbrev pub IsCheckReply : Invocation → Contents → ℕ → ℕ → CheckReply → Type 0
  IsCheckReply invocation contents before after reply =
      MatchResult reply (λ found. IsChecked invocation contents found ⊎ IsFoundAt contents.files found)
      (λ fault. known
      → IsOfMachine before after fault ⊎ IsTextFault contents.files fault)

  -- the arguments are refused, or they make a request, and this is the reply to it
  abbrev pub RepliesCheck : Given → Contents → ℕ → ℕ → CheckReply → Type 0
  RepliesCheck given contents before after reply =
      ((fault : Fault) × AreRefused given fault × (reply ≡ Err fault))
      ⊎ ((invocation : Invocation) × AskFor given invocation
      × IsCheckReply invocation contents before after reply)
