-- The effect of a reply to an incremental request.
use Rattle.std.specs.Prelude.{◌≡◌, List, [], ◌∷◌, Ok, IsTrue}
use Rattle.std.specs.List.{AllByRecursion}
use Rattle.std.specs.FinMap.Entries.{is_sorted}
use Rattle.gb_core.specs.Lists.{byte_order}
use Rattle.gb_folder.specs.Files.{Files, are_placed}
use Rattle.gb_action.specs.Changes.{Changes}
use Rattle.gb_action.specs.Files.{Trees}
use Rattle.gb_action.specs.Replies.{CarriesOver}
use Rattle.gb_action.specs.declared.output_files.OutputFiles.{OutputFiles}
use Rattle.gb_action.specs.declared.reply.Reply.{Reply}
use Rattle.gb_action.specs.declared.reply.Written.{Written}
use Rattle.gb_plan.specs.declared.task.Action.{Action}
use Rattle.gb_plan.specs.declared.task.TaskDeclaration.{TaskDeclaration as Task}
use Rattle.gb_semantics.specs.Kinds.{Kinds, kind_of}
use Rattle.gb_semantics.specs.Made.{placed, put_over, rest_of, step_faults}
use Rattle.gb_run.specs.AskingChanges.{GoesOn, IsFitting, request_of, writers}
use Rattle.gb_run.specs.Named.{held_after, steps_of}
use Rattle.gb_run.specs.Steps.{LeadTo, in_step_order}

-- The reply of a task's writer to an incremental request, and the files that it makes of the trees as they
-- are now.
pub record IsReplied (kinds : Kinds) (task : Task) (trees : Trees) (changes : List Changes)
    (outputs : List OutputFiles) (files : Files) (reply : Reply) (written : List Written) : Type 0 where
  pub in_order : IsTrue (is_sorted byte_order files)
  pub are_placed : IsTrue (are_placed files)
  pub fitting : AllByRecursion (IsFitting kinds task) task.actions
  pub old : Trees
  pub goes_on : GoesOn kinds task old trees changes outputs files
  pub writer : Action
  pub writes : writers kinds task.actions ≡ writer ∷ []
  pub makes : kinds.makes (kind_of writer) writer.args task.values trees ≡ Ok written
  pub carries : CarriesOver (kinds.makes (kind_of writer)) (request_of task trees changes outputs writer.args)
      reply

-- The files after such a reply is done are those that the writer makes.
abbrev pub RepliesAreMade : Type 0
RepliesAreMade =
    (kinds : Kinds) (task : Task) (trees : Trees) (changes : List Changes) (outputs : List OutputFiles)
    (files : Files) (reply : Reply) (written : List Written)
    → IsReplied kinds task trees changes outputs files reply written →
    held_after task.outputs outputs reply.removes reply.writes ≡ put_over [] (placed task.outputs written)

-- If these files have no fault within the task, the steps of the reply lead from the current files to what a
-- full execution leaves, and each is at a place where the two differ.
abbrev pub RepliesLeadOn : Type 0
RepliesLeadOn =
    (kinds : Kinds) (task : Task) (trees : Trees) (changes : List Changes) (outputs : List OutputFiles)
    (files : Files) (reply : Reply) (written : List Written)
    → IsReplied kinds task trees changes outputs files reply written
    → step_faults task.outputs [] (placed task.outputs written) ≡ [] →
    LeadTo files (put_over (rest_of task files) (put_over [] (placed task.outputs written)))
    (in_step_order (steps_of task.outputs reply.removes reply.writes))
