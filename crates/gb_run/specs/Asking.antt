-- The full request to an action, and the answer to it.
use Rattle.std.specs.Prelude.{◌≡◌, false, List, map, Result}
use Rattle.gb_action.specs.Changes.{Changes}
use Rattle.gb_action.specs.Files.{Trees}
use Rattle.gb_action.specs.declared.reply.Written.{Written}
use Rattle.gb_action.specs.declared.request.Request.{Request}
use Rattle.gb_plan.specs.Task.{Text, given_outputs}
use Rattle.gb_plan.specs.declared.task.Action.{Action}
use Rattle.gb_plan.specs.declared.task.TaskDeclaration.{TaskDeclaration as Task}
use Rattle.gb_semantics.specs.Kinds.{Kinds, kind_of}

-- The request is for the task with these trees and change lists, and not incremental.
pub record IsFullRequest (task : Task) (trees : Trees) (changes : List Changes)
    (request : Request) : Type 0 where
  pub values : request.values ≡ task.values
  pub files : request.files ≡ trees
  pub outputs : map (λ output. (output.name, output.form)) request.outputs ≡ given_outputs task.outputs
  pub in_full : request.changes.incremental ≡ false
  pub lists : request.changes.lists ≡ changes

-- the same, with the trees and change lists of another request
abbrev pub IsFullLike : Task → Request → Request → Type 0
IsFullLike task other request = IsFullRequest task other.files other.changes.lists request

-- what an action of the task makes of these trees
abbrev pub made_by : Kinds → Task → Action → Trees → Result (List Written) Text
made_by kinds task action trees = kinds.makes (kind_of action) action.args task.values trees

-- the lines that it prints, for these change lists
abbrev pub printed_by : Kinds → Task → Action → Trees → List Changes → List Text
printed_by kinds task action trees changes =
    kinds.prints (kind_of action) action.args task.values trees changes
