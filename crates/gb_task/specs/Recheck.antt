-- How a task that may run incrementally is to run, by what was read of it whole.
use Rattle.std.specs.Prelude.{◌≡◌, List, map}
use Rattle.gb_action.specs.Changes.{Changes}
use Rattle.gb_action.specs.Files.{Trees}
use Rattle.gb_action.specs.declared.output_files.OutputFiles.{OutputFiles}
use Rattle.gb_folder.specs.Files.{Files}
use Rattle.gb_history.specs.Decision.{DecidesFrom}
use Rattle.gb_history.specs.Record.{Record}
use Rattle.gb_history.specs.declared.decide.Decision.{Decision}
use Rattle.gb_history.specs.declared.decide.Decision.TheVariants as decisions
use Rattle.gb_history.specs.declared.decide.Present.{Present}
use Rattle.gb_label.specs.Deciding.{IsPresentOf}
use Rattle.gb_label.specs.Reading.{digests_in, prints_observed, records_with, observed_of}
use Rattle.gb_label.specs.declared.inputs.Inputs.{Inputs}
use Rattle.gb_label.specs.declared.outputs.Outputs.{Outputs}
use Rattle.gb_semantics.specs.Kinds.{Kinds}
use Rattle.gb_semantics.specs.Memory.{World}
use Rattle.gb_semantics.specs.Tree.{trees_of}
use Rattle.gb_plan.specs.Task.{given_files, given_outputs}
use Rattle.gb_plan.specs.declared.task.TaskDeclaration.{TaskDeclaration as Task}
use Rattle.gb_report.specs.declared.report.Options.{Options}
use Rattle.gb_task.specs.Executing.{IsDueByChanges}
use Rattle.gb_task.specs.declared.recheck.Recheck.{Recheck}
use Rattle.gb_task.specs.declared.recheck.Recheck.TheVariants as recheck

-- the trees of the task's properties, with the digests of these very trees
pub record AreWhole (task : Task) (inputs : Inputs) : Type 0 where
  pub named : map (λ tree. tree.0) inputs.trees ≡ given_files task.files
  pub digests : inputs.prints.items ≡ digests_in inputs.trees

-- the files at the task's outputs, with the digests of these very files
pub record AreWholeOutputs (task : Task) (outputs : Outputs) : Type 0 where
  pub formed : map (λ output. (output.name, output.form)) outputs.observed ≡ given_outputs task.outputs
  pub digests : outputs.prints.items ≡ prints_observed outputs.observed

-- The changes are decided by the record on the digests of these trees and outputs.
pub record AreDecided (options : Options) (task : Task) (last : Record) (trees : Trees)
    (observed : List OutputFiles) (changes : List Changes) : Type 0 where
  pub present : Present
  pub is : IsPresentOf options task (digests_in trees)
      (records_with task.outputs (prints_observed observed)) present
  pub decides : DecidesFrom last present (decisions.Incremental changes)

-- how a task is to run, by what was decided
abbrev pub recheck_by : Decision → Inputs → Outputs → Recheck
recheck_by decisions.UpToDate inputs outputs = recheck.InFull inputs
recheck_by (decisions.Incremental changes) inputs outputs = recheck.ByChanges inputs outputs changes
recheck_by decisions.Full inputs outputs = recheck.InFull inputs

-- How the task is to run was decided on these very inputs and outputs.
abbrev pub IsRecheck : Options → Task → Record → Recheck → Type 0
IsRecheck options task last (recheck.ByChanges inputs outputs changes) =
    AreWhole task inputs × AreWholeOutputs task outputs
    × AreDecided options task last inputs.trees outputs.observed changes
IsRecheck options task last (recheck.InFull inputs) = AreWhole task inputs

-- The task runs incrementally, based on what is in these files.
abbrev pub IsAsBefore : Kinds → Options → Task → Files → World → Recheck → Type 0
IsAsBefore kinds options task files world (recheck.ByChanges inputs outputs changes) =
    (inputs.trees ≡ trees_of task files) × (outputs.observed ≡ map (observed_of files) task.outputs)
    × IsDueByChanges kinds options task world changes
IsAsBefore kinds options task files world (recheck.InFull inputs) = ⊥
