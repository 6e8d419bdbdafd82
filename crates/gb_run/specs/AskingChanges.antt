-- The incremental request to the writer of a task, and what an incremental execution is based on.
use Rattle.std.specs.Prelude.{◌≡◌, ◌&&◌, Bool, true, false, List, [], map, Ok, Some, IsTrue, bytes_eq}
use Rattle.std.specs.Prelude.{is_some}
use Rattle.std.specs.List.{filter, list_all, list_any}
use Rattle.std.specs.FinMap.Entries.{find}
use Rattle.gb_core.specs.Lists.{byte_order}
use Rattle.gb_core.specs.declared.value.Value.{Value}
use Rattle.gb_folder.specs.Files.{Files, is_own}
use Rattle.gb_action.specs.Changes.{Changes}
use Rattle.gb_action.specs.Files.{Trees}
use Rattle.gb_action.specs.Meanings.{Meanings, shape_of}
use Rattle.gb_action.specs.Replies.{DescribesChangesFrom}
use Rattle.gb_action.specs.Shapes.{target}
use Rattle.gb_action.specs.declared.output_files.OutputFiles.{OutputFiles}
use Rattle.gb_action.specs.declared.reply.Written.{Written}
use Rattle.gb_action.specs.declared.request.Request.{Request}
use Rattle.gb_tree.specs.Tree.{files_from}
use Rattle.gb_plan.specs.Graph.{some_overlap}
use Rattle.gb_plan.specs.Ready.{Rows}
use Rattle.gb_plan.specs.Task.{output_places}
use Rattle.gb_plan.specs.declared.task.Action.{Action}
use Rattle.gb_plan.specs.declared.task.Output.{Output}
use Rattle.gb_plan.specs.declared.task.TaskDeclaration.{TaskDeclaration as Task}
use Rattle.gb_semantics.specs.Kinds.{Kinds, kind_of}
use Rattle.gb_semantics.specs.Label.{has_one_writer}
use Rattle.gb_semantics.specs.Made.{made_of, output_named}
use Rattle.gb_semantics.specs.Memory.{output_files}

-- the incremental request with these arguments
abbrev pub request_of : Task → Trees → List Changes → List OutputFiles → List Value → Request
request_of task trees changes outputs args = record {
  args = args;
  values = task.values;
  files = trees;
  outputs = outputs;
  changes = record { incremental = true; lists = changes };
}

-- an output with the files that are there, by their paths
abbrev pub observed_of : Files → Output → OutputFiles
observed_of files output =
    record { name = output.name; form = output.form; files = files_from files output.place }

-- The files at the task's outputs were made of old trees. The lists give the changes from those trees. The
-- outputs are read as they are, and are disjoint.
pub record GoesOn (kinds : Kinds) (task : Task) (old trees : Trees) (changes : List Changes)
    (outputs : List OutputFiles) (files : Files) : Type 0 where
  pub one_writer : IsTrue (has_one_writer kinds task.actions)
  pub was_made : made_of kinds task.actions task.values old task.outputs ≡ Ok (output_files task files)
  pub shows : DescribesChangesFrom old (request_of task trees changes outputs [])
  pub exists : outputs ≡ map (observed_of files) task.outputs
  pub separate : some_overlap (output_places task) ≡ false
  pub not_own : list_any (λ output. is_own output.place) task.outputs ≡ false

-- ---- Actions

-- the actions that write files
abbrev pub writers : Kinds → List Action → List Action
writers kinds actions = filter (λ action. kinds.writes (kind_of action)) actions

-- on any input, the action writes files of its own output alone, and none if its kind writes none
abbrev pub KeepsToOwn : Kinds → Action → Type 0
KeepsToOwn kinds action =
    (args : List Value) (values : _) (trees : Trees) (written : List Written)
    → kinds.makes (kind_of action) args values trees ≡ Ok written
    → list_all (λ file. bytes_eq file.output target && kinds.writes (kind_of action)) written ≡ true

-- a task with an action that writes has the output that kinds write
abbrev pub HasTarget : Kinds → Task → Action → Type 0
HasTarget kinds task action =
    kinds.writes (kind_of action) ≡ true → IsTrue (is_some (output_named task.outputs target))

-- what is known of the actions of a ready task
pub record IsFitting (kinds : Kinds) (task : Task) (action : Action) : Type 0 where
  pub keeps : KeepsToOwn kinds action
  pub has_target : HasTarget kinds task action

-- the table entry of the action writes files
abbrev pub writes_stored : {S : Type 0} → Meanings S → S → Bool
writes_stored meanings stored = is_some (shape_of meanings stored).out

-- the table entry of the action can answer incremental requests
abbrev pub AnswersChanges : {S : Type 0} → Meanings S → Rows S → Action → Type 0
AnswersChanges {S = S} meanings rows action =
    (stored : S) → find byte_order action.kind rows ≡ Some stored
    → (shape_of meanings stored).incremental ≡ true

-- the same, if it writes
abbrev pub CanGoOn : {S : Type 0} → Meanings S → Rows S → Action → Type 0
CanGoOn {S = S} meanings rows action =
    (stored : S) → find byte_order action.kind rows ≡ Some stored
    → writes_stored meanings stored ≡ true → (shape_of meanings stored).incremental ≡ true
