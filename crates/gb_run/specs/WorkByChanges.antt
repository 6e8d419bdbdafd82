-- The steps and lines of an incremental execution, computed before anything is changed.
use Rattle.std.specs.Prelude.{◌≡◌, ◌⊎◌, ◌++◌, true, false, List, [], ◌∷◌, Option, None, Some, Ok, Err}
use Rattle.std.specs.List.{AllZip}
use Rattle.gb_core.specs.Lists.{first_of}
use Rattle.gb_folder.specs.Calls.{Call}
use Rattle.gb_report.specs.declared.fault.Fault.{Fault}
use Rattle.gb_report.specs.declared.fault.Fault.TheVariants as faults
use Rattle.gb_action.specs.Changes.{Changes}
use Rattle.gb_action.specs.Files.{Trees}
use Rattle.gb_action.specs.Replies.{Answers}
use Rattle.gb_action.specs.declared.output_files.OutputFiles.{OutputFiles}
use Rattle.gb_action.specs.declared.reply.Reply.{Reply}
use Rattle.gb_plan.specs.Task.{Text}
use Rattle.gb_plan.specs.declared.task.Action.{Action}
use Rattle.gb_plan.specs.declared.task.TaskDeclaration.{TaskDeclaration as Task}
use Rattle.gb_semantics.specs.Kinds.{Kinds, kind_of}
use Rattle.gb_run.specs.Asking.{made_by, printed_by}
use Rattle.gb_run.specs.AskingChanges.{IsFitting, request_of}
use Rattle.gb_run.specs.Doing.{Ending}
use Rattle.gb_run.specs.Named.{held_after, steps_of}
use Rattle.gb_run.specs.Placing.{faults_beside}
use Rattle.gb_run.specs.Steps.{in_step_order}
use Rattle.gb_run.specs.Work.{DoesParts, Part, Work, or_fault}

-- What such a run depends on: what kinds mean, the task with its trees and change lists, and its outputs as
-- they were read.
pub record Increment : Type 0 where
  pub kinds : Kinds
  pub task : Task
  pub trees : Trees
  pub changes : List Changes
  pub observed : List OutputFiles

abbrev pub increment_of : Kinds → Task → Trees → List Changes → List OutputFiles → Increment
increment_of kinds task trees changes observed =
    record { kinds = kinds; task = task; trees = trees; changes = changes; observed = observed }

-- The part of an action that writes no file: no steps, and its lines.
pub record IsReaderPart (run : Increment) (action : Action) (part : Part) : Type 0 where
  pub quiet : run.kinds.writes (kind_of action) ≡ false
  pub made : IsFitting run.kinds run.task action → made_by run.kinds run.task action run.trees ≡ Ok []
  pub steps : part.steps ≡ []

-- The part of the action that writes: it replied to the change lists, the files that the task then holds have
-- no fault, and the steps are those that the reply names, removals first.
pub record IsWriterPart (run : Increment) (action : Action) (part : Part) : Type 0 where
  pub writes : run.kinds.writes (kind_of action) ≡ true
  pub reply : Reply
  pub answers : Answers (run.kinds.makes (kind_of action)) (run.kinds.prints (kind_of action))
      (request_of run.task run.trees run.changes run.observed action.args) (Ok reply)
  pub free : faults_beside run.task.outputs [] (held_after run.task.outputs run.observed reply.removes
      reply.writes) ≡ []
  pub steps : part.steps ≡ in_step_order (steps_of run.task.outputs reply.removes reply.writes)

abbrev pub IsPart : Increment → Action → Part → Type 0
IsPart run action part =
    (IsReaderPart run action part ⊎ IsWriterPart run action part)
    × (part.lines ≡ printed_by run.kinds run.task action run.trees run.changes)

-- Why an action ends the run by itself: it failed with a text, or the files that the task would hold have a
-- fault.
abbrev pub FailsWith : Increment → Action → Fault → Type 0
FailsWith run action fault =
    ((text : Text) × (fault ≡ faults.ActionFailed text)
    × (made_by run.kinds run.task action run.trees ≡ Err text))
    ⊎ ((run.kinds.writes (kind_of action) ≡ true) × (reply : Reply)
    × Answers (run.kinds.makes (kind_of action)) (run.kinds.prints (kind_of action))
    (request_of run.task run.trees run.changes run.observed action.args) (Ok reply)
    × (first_of (faults_beside run.task.outputs [] (held_after run.task.outputs run.observed reply.removes
    reply.writes)) ≡ Some fault))

-- the next of these actions fails with this fault, or there is none
abbrev pub EndsSo : Increment → List Action → Option Fault → Type 0
EndsSo run [] own = own ≡ None
EndsSo run (action ∷ later) own = (fault : Fault) × (own ≡ Some fault) × FailsWith run action fault

-- The result of the actions: the parts of some first ones, and the fault of the next, if one is left.
pub record IsWorkByChanges (run : Increment) (work : Work) : Type 0 where
  pub done : List Action
  pub left : List Action
  pub all : run.task.actions ≡ done ++ left
  pub parts : AllZip (IsPart run) done work.parts
  pub ends : EndsSo run left work.fault

-- The actions ran incrementally by these calls. Either memory ran out before the first of them, or the work
-- of the actions was done, and the run ends with the work's own fault if it has one.
abbrev pub RunsByChanges : Increment → List Call → List Text → Ending → Type 0
RunsByChanges run calls lines result =
    ((calls ≡ []) × (lines ≡ []) × (result ≡ Err faults.OutOfMemory))
    ⊎ ((work : Work) × IsWorkByChanges run work × (done : Ending) × DoesParts work.parts calls lines done
    × (result ≡ or_fault done work.fault))
