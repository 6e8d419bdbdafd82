-- What an execution did, over any folder: what it read, and the calls of its stages.
use Rattle.std.specs.Prelude.{◌≡◌, ◌⊎◌, Bool, true, List, [], map, Option, Some, Err}
use Rattle.std.specs.Prelude.{IsTrue, is_some}
use Rattle.gb_action.specs.Changes.{Changes}
use Rattle.gb_action.specs.Files.{Trees}
use Rattle.gb_action.specs.Meanings.{Meanings}
use Rattle.gb_action.specs.declared.output_files.OutputFiles.{OutputFiles}
use Rattle.gb_folder.specs.Calls.{Requests, Call, no_change, Device}
use Rattle.gb_folder.specs.Device.{Leads}
use Rattle.gb_history.specs.Record.{Record}
use Rattle.gb_label.specs.Answered.{WasSourced, WasSourceless}
use Rattle.gb_label.specs.ReadingAnswered.{AreInputsRead, AreOutputsRead}
use Rattle.gb_semantics.specs.Headline.{Agrees}
use Rattle.gb_semantics.specs.Kinds.{Kinds}
use Rattle.gb_semantics.specs.Label.{has_one_writer}
use Rattle.gb_plan.specs.Ready.{Rows}
use Rattle.gb_plan.specs.Task.{Text, given_files, given_outputs}
use Rattle.gb_plan.specs.declared.task.TaskDeclaration.{TaskDeclaration as Task}
use Rattle.gb_report.specs.declared.fault.Fault.{Fault}
use Rattle.gb_report.specs.declared.report.Options.{Options}
use Rattle.gb_report.specs.declared.report.Outcome.{Outcome}
use Rattle.gb_run.specs.Doing.{Ending}
use Rattle.gb_task.specs.Executing.{outcome_of}
use Rattle.gb_task.specs.Recheck.{AreDecided}
use Rattle.gb_task.specs.Stages.{Clears, FullRun, RunByChanges, Stage}

-- Calls returned these trees of the inputs whole since this state of the folder, and nothing was changed. By
-- what they returned the task has a source.
pub record HaveRead {F : Type 0} (device : Device F) (task : Task) (trees : Trees)
    (first read : F) : Type 0 where
  pub requests : Requests device no_change first read
  pub inputs : AreInputsRead device first read task trees
  pub named : map (λ tree. tree.0) trees ≡ given_files task.files
  pub sourced : WasSourced device first read task

-- So they did with these files of its outputs, and by the record and the digests of just these and of these
-- trees the run is one by these changes.
pub record GoesFrom {F : Type 0} (device : Device F) (options : Options) (task : Task) (last : Record)
    (trees : Trees) (changes : List Changes) (observed : List OutputFiles) (first read : F) : Type 0 where
  pub outputs : AreOutputsRead device first read task observed
  pub formed : map (λ output. (output.name, output.form)) observed ≡ given_outputs task.outputs
  pub decided : AreDecided options task last trees observed changes

module _ {F : Type 0} (device : Device F) where
  -- the stage was done, from the one state of the folder to the other
  abbrev pub WasDone : Stage → List Text → Ending → F → F → Type 0
  WasDone stage lines result old new =
      (calls : List Call) × Leads device old calls new × stage calls lines result

  -- no change was requested and no line printed, and it ended with a fault
  abbrev pub OnlyRead : List Text → Ending → F → F → Type 0
  OnlyRead lines result first new =
      Requests device no_change first new × (lines ≡ []) × (fault : Fault)
      × (result ≡ Err fault)

  -- the task was found without source, and then what is left of its last execution was removed
  abbrev pub WasCleared : Task → Bool → List Text → Ending → F → F → Type 0
  WasCleared task was_read lines result first new =
      (read : F) × Requests device no_change first read
      × WasSourceless device first read task
      × WasDone (Clears task was_read) lines result read new

  module _ {S : Type 0} (meanings : Meanings S) (rows : Rows S) (task : Task) where
    -- the inputs were read, and then the task ran in full on them
    abbrev pub RanInFull : Bool → List Text → Ending → F → F → Type 0
    RanInFull was_read lines result first new =
        (trees : Trees) × (read : F) × HaveRead device task trees first read
        × WasDone (FullRun meanings rows task trees was_read) lines result read new

    -- the inputs and the outputs were read, and then the task ran by the changes since this record
    abbrev pub RanByChanges : Options → Record → List Text → Ending → F → F → Type 0
    RanByChanges options last lines result first new =
        (trees : Trees) × (changes : List Changes) × (observed : List OutputFiles) × (read : F)
        × HaveRead device task trees first read
        × GoesFrom device options task last trees changes observed first read
        × WasDone (RunByChanges meanings rows task trees changes observed) lines result read new

    -- the task ran, in full or by the changes since this record
    abbrev pub RanFrom : Options → Record → List Text → Ending → F → F → Type 0
    RanFrom options last lines result first new =
        RanInFull true lines result first new ⊎ RanByChanges options last lines result first new

    -- The task ran, with this record read of it: in full, or by the changes since the record, where one
    -- action writes files.
    abbrev pub WasRun : Options → Option Record → List Text → Ending → F → F → Type 0
    WasRun options last lines result first new =
        RanInFull (is_some last) lines result first new
        ⊎ ((run : Record) × (last ≡ Some run)
        × ((kinds : Kinds) → Agrees meanings rows kinds → IsTrue (has_one_writer kinds task.actions))
        × RanByChanges options run lines result first new)

-- it ended so, and this is the outcome of that
abbrev pub EndsAs : (Ending → Type 0) → Outcome → Type 0
EndsAs Held outcome = (ended : Ending) × (outcome ≡ outcome_of ended) × Held ended
