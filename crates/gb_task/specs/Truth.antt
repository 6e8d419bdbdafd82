-- Records stay true, whoever else writes in the folder: the text of a run's record states what the task's
-- actions make.
use Rattle.std.specs.Prelude.{◌≡◌, ◌++◌, false, List, map, Ok, Option, IsTrue}
use Rattle.std.specs.List.{list_any}
use Rattle.sha2.specs.Sha256.{sha256}
use Rattle.gb_action.specs.Changes.{Changes}
use Rattle.gb_action.specs.Files.{Trees}
use Rattle.gb_action.specs.Meanings.{Meanings}
use Rattle.gb_action.specs.declared.output_files.OutputFiles.{OutputFiles}
use Rattle.gb_folder.specs.Files.{Bytes, Files, is_own}
use Rattle.gb_history.specs.Record.{IsWellFormed, Record}
use Rattle.gb_history.specs.Text.{record_text}
use Rattle.gb_label.specs.ReadingAnswered.{AreInputsRead}
use Rattle.gb_label.specs.Reading.{observed_of}
use Rattle.gb_semantics.specs.Headline.{Agrees}
use Rattle.gb_semantics.specs.Kinds.{Kinds}
use Rattle.gb_semantics.specs.Label.{has_one_writer}
use Rattle.gb_semantics.specs.Made.{made_of}
use Rattle.gb_semantics.specs.Memory.{Entry}
use Rattle.gb_semantics.specs.TrueRecord.{AreCollisionFree, IsMade, contents_in, contents_of}
use Rattle.gb_plan.specs.Graph.{some_overlap}
use Rattle.gb_plan.specs.Ready.{Rows}
use Rattle.gb_plan.specs.Task.{output_places, given_files}
use Rattle.gb_plan.specs.declared.task.TaskDeclaration.{TaskDeclaration as Task}
use Rattle.gb_records.specs.Said.{IsSaidOf}
use Rattle.gb_report.specs.declared.report.Options.{Options}
use Rattle.gb_task.specs.Current.{IsCurrentOn}
use Rattle.gb_task.specs.Ran.{GoesFrom, HaveRead}
use Rattle.gb_task.specs.Stages.{IsOfFullRun, IsOfRunByChanges}
use Rattle.gb_folder.specs.Calls.{Device}

-- The bytes are the text of a true record of the task: there is an entry with its actions, values and
-- outputs. Calls returned the entry's inputs on the way from a state of the folder, its files are what these
-- actions make of them, and the record has its digests.
pub record IsTextOfTrue {F : Type 0} (device : Device F) (old : F) (kinds : Kinds) (task : Task)
    (bytes : Bytes) : Type 0 where
  pub run : Record
  pub text : bytes ≡ record_text task.path run
  pub entry : Entry
  pub actions : entry.actions ≡ task.actions
  pub values : entry.values ≡ task.values
  pub outputs : entry.outputs ≡ task.outputs
  pub read : F
  pub inputs_read : AreInputsRead device old read task entry.inputs
  pub named : map (λ tree. tree.0) entry.inputs ≡ given_files task.files
  pub is_made : IsMade kinds entry
  pub said : IsSaidOf run entry

-- all contents that were read of a task
abbrev pub contents_read : Trees → List OutputFiles → List Bytes
contents_read trees observed = contents_in trees
    ++ contents_in (map (λ output. (output.name, output.files)) observed)

-- The record is that of a true entry, and no two contents among those of the entry and these share a digest.
pub record IsTrueBeside (kinds : Kinds) (last : Record) (contents : List Bytes) : Type 0 where
  pub entry : Entry
  pub is_made : IsMade kinds entry
  pub said : IsSaidOf last entry
  pub separate : AreCollisionFree sha256 (contents_of entry ++ contents)

-- The outputs of the task do not overlap, and are outside of the tool's own files.
pub record AreSeparate (task : Task) : Type 0 where
  pub separate : some_overlap (output_places task) ≡ false
  pub not_own : list_any (λ output. is_own output.place) task.outputs ≡ false

-- what a full run stores is true
abbrev pub FullRunsAreTrue : {F S : Type 0} → Device F → Meanings S
    → Type 0
FullRunsAreTrue {F = F} {S = S} device meanings =
    (first read : F) (rows : Rows S) (kinds : Kinds) (task : Task) (trees : Trees) (run : Record)
    → Agrees meanings rows kinds → HaveRead device task trees first read
    → IsOfFullRun meanings rows task trees run
    → IsTextOfTrue device first kinds task (record_text task.path run)

-- What a run by changes stores is true where the record that it is based on is true. The premise: no two
-- contents among those of that record and what was read share a digest.
abbrev pub RunsByChangesStayTrue : {F S : Type 0} → Device F
    → Meanings S → Type 0
RunsByChangesStayTrue {F = F} {S = S} device meanings =
    (first read : F) (rows : Rows S) (kinds : Kinds) (options : Options) (task : Task) (last : Record)
    (trees : Trees) (changes : List Changes) (observed : List OutputFiles) (run : Record)
    → Agrees meanings rows kinds → AreSeparate task → IsTrue (has_one_writer kinds task.actions)
    → IsWellFormed last → HaveRead device task trees first read
    → GoesFrom device options task last trees changes observed first read
    → IsOfRunByChanges meanings rows task trees changes observed run
    → IsTrueBeside kinds last (contents_read trees observed)
    → IsTextOfTrue device first kinds task (record_text task.path run)

-- these files are what the task's actions make of these trees
pub record AreMadeOf (kinds : Kinds) (task : Task) (trees : Trees) (observed : List OutputFiles)
    : Type 0 where
  pub files : Files
  pub made : made_of kinds task.actions task.values trees task.outputs ≡ Ok files
  pub exist : observed ≡ map (observed_of files) task.outputs

-- Where a task is found up to date, what was read at its outputs is what its actions make of what was read at
-- its inputs. The premises: the record that was read of it is true, and no two contents share a digest.
abbrev pub UpToDateIsMade : {F : Type 0} → Device F → Type 0
UpToDateIsMade {F = F} device =
    (kinds : Kinds) (options : Options) (task : Task) (last : Option Record) (old new : F) → AreSeparate task
    → (on : IsCurrentOn device options task last old new)
    → IsTrueBeside kinds on.run (contents_read on.trees on.observed)
    → AreMadeOf kinds task on.trees on.observed
