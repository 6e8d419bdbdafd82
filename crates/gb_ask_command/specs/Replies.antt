-- The replies to the arguments of a question.
use Rattle.std.specs.Prelude.{ℕ, ◌≡◌, ◌⊎◌, List, Ok, Err, Result, string_bytes}
use Rattle.gb_build.specs.Scripts.{FolderDeclares}
use Rattle.gb_cli.specs.Answered.{AreRefused, AskFor, Given}
use Rattle.gb_declare.specs.Registered.{registry_said}
use Rattle.gb_folder.specs.Files.{Place}
use Rattle.gb_graph.specs.Answer.{IsRefusalOf}
use Rattle.gb_semantics.specs.Edits.{Shown}
use Rattle.gb_semantics.specs.declared.events.Invocation.{Invocation}
use Rattle.gb_plan.specs.Graph.{Registry, paths_of}
use Rattle.gb_predict.specs.declared.predicted_outcome.Prediction.{Prediction}
use Rattle.gb_query.specs.Asked.{asked_place}
use Rattle.gb_query.specs.Inventory.{IsUnlisted}
use Rattle.gb_query.specs.Notation.{IsFoundText, IsStatusOf, IsTasksText}
use Rattle.gb_query.specs.Search.{found_in}
use Rattle.gb_query.specs.declared.answer_lines.Activity.{Activity}
use Rattle.gb_query.specs.declared.notation.Notation.{Notation}
use Rattle.gb_query.specs.declared.at_place.Relation.{Relation}
use Rattle.gb_registry.specs.Source.{Source}
use Rattle.gb_registry.specs.Tables.{Tables}
use Rattle.gb_report.specs.declared.fault.Fault.{Fault}
use Rattle.gb_report.specs.declared.fault.Fault.TheVariants as faults
use Rattle.gb_folder.specs.Faults.{IsOfMachine}
use Rattle.gb_ask_command.specs.Graph.{IsDrawing}
use Rattle.gb_ask_command.specs.Reply.{Reply}
use Rattle.gb_ask_command.specs.declared.arguments.Style.{Style}

-- the arguments are refused, or they make a request, and this is the reply to it
abbrev pub Replies : {R : Type 0} → (Invocation → Result R Fault → Type 0) → Given → Result R Fault → Type 0
Replies IsReplyTo given reply =
    ((fault : Fault) × AreRefused given fault × (reply ≡ Err fault))
    ⊎ ((invocation : Invocation) × AskFor given invocation × IsReplyTo invocation reply)

-- the folder is `old` at first, and its device has failed `after` times at the end
module _ {M F Z S A : Type 0} (tables : Tables M F Z S A) (known : Type 0) (old : Shown) (after : ℕ) where
  -- ---- The scripts

  -- These are the scripts with the given values, or the fault for which they cannot be read. If contents are
  -- known, this is the result for the folder's own scripts, or a fault of the machine.
  abbrev pub AreRead : Invocation → Result Source Fault → Type 0
  AreRead invocation (Ok source) =
      known → FolderDeclares tables old.contents.files invocation.properties (Ok source)
  AreRead invocation (Err fault) =
      known → IsOfMachine old.failures after fault
      ⊎ FolderDeclares tables old.contents.files invocation.properties (Err fault)

  -- scripts are read, and this holds of the tasks that they register
  abbrev pub IsOfScripts : Invocation → (Registry → Type 0) → Type 0
  IsOfScripts invocation Holds =
      (source : Source) × AreRead invocation (Ok source) × Holds (registry_said tables source)

  -- a text about the tasks that the scripts register, or the fault for which they cannot be read
  abbrev pub IsReplyOf : (Registry → List ℕ → Type 0) → Invocation → Reply → Type 0
  IsReplyOf IsTextOf invocation (Ok text) = IsOfScripts invocation
      (λ registry. IsTextOf registry (string_bytes text))
  IsReplyOf IsTextOf invocation (Err fault) = AreRead invocation (Err fault)

  -- ---- Each question

  -- all registered tasks, in the order of registration
  abbrev pub IsTasksReply : Notation → Invocation → Reply → Type 0
  IsTasksReply notation invocation reply = IsReplyOf (IsTasksText notation) invocation reply

  -- the graph of the plan of the request, with the colours of these predictions, or the fault for which a
  -- build of it is refused
  abbrev pub IsGraphReply : Style → List Prediction → Invocation → Reply → Type 0
  IsGraphReply style predicted invocation (Ok text) =
      IsOfScripts invocation (λ registry.
      IsDrawing style predicted registry invocation.requested invocation.excluded (string_bytes text))
  IsGraphReply style predicted invocation (Err fault) =
      AreRead invocation (Err fault)
      ⊎ IsOfScripts invocation (λ registry. IsRefusalOf registry invocation.requested invocation.excluded
      fault)

  -- exactly the relations between registered tasks and this place, or the fault that no place is requested
  abbrev pub IsReplyAbout : Notation → Relation → Result Place Fault → Invocation → Reply → Type 0
  IsReplyAbout notation relation (Ok place) invocation reply =
      IsReplyOf (λ registry text. IsFoundText notation relation (found_in relation place registry) text)
      invocation reply
  IsReplyAbout notation relation (Err fault) invocation reply =
      (reply ≡ Err fault) ⊎ (reply ≡ Err faults.OutOfMemory)

  abbrev pub IsPlaceReply : Notation → Relation → Invocation → Reply → Type 0
  IsPlaceReply notation relation invocation reply =
      IsReplyAbout notation relation (asked_place invocation.requested) invocation reply

  -- Whether a build runs, and what each file of `.gb` is if the scripts register these tasks; or the fault
  -- for which scripts or files cannot be read. If contents are known, the files are the folder's own.
  abbrev pub IsStatusReply : Notation → Activity → Invocation → Reply → Type 0
  IsStatusReply notation activity invocation (Ok text) =
      IsOfScripts invocation (λ registry.
      IsStatusOf known notation activity old.contents.files (paths_of registry) (string_bytes text))
  IsStatusReply notation activity invocation (Err fault) =
      AreRead invocation (Err fault) ⊎ (known → IsUnlisted old.contents old.failures after fault)
