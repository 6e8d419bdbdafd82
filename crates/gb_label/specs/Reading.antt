-- What an execution reads, once, and why it cannot read it.
use Rattle.std.specs.Prelude.{ℕ, ◌≡◌, ◌⊎◌, Bool, List, Some, map, IsTrue}
use Rattle.std.specs.List.{AllByRecursion, AllZip, list_any, zip}
use Rattle.sha2.specs.Sha256.{sha256}
use Rattle.gb_action.specs.Files.{Trees}
use Rattle.gb_action.specs.declared.output_files.OutputFiles.{OutputFiles}
use Rattle.gb_core.specs.Lists.{first_of}
use Rattle.gb_core.specs.Place.{is_under}
use Rattle.gb_folder.specs.Files.{Contents, Files, Place}
use Rattle.gb_history.specs.Record.{Prints}
use Rattle.gb_history.specs.declared.record.OutputRecord.{OutputRecord}
use Rattle.gb_semantics.specs.Tree.{reported_of_tree}
use Rattle.gb_semantics.specs.TrueRecord.{output_record_of}
use Rattle.gb_plan.specs.declared.task.FileProperty.{FileProperty}
use Rattle.gb_plan.specs.declared.task.Output.{Output}
use Rattle.gb_plan.specs.Task.{is_output_of, roots_of}
use Rattle.gb_plan.specs.declared.task.TaskDeclaration.{TaskDeclaration as Task}
use Rattle.gb_report.specs.declared.fault.Fault.{Fault}
use Rattle.gb_folder.specs.Faults.{IsOfMachine}
use Rattle.gb_tree.specs.Prints.{digests_of}
use Rattle.gb_tree.specs.Property.{entries_of}
use Rattle.gb_tree.specs.Reading.{AreObserved, digests_observed}
use Rattle.gb_tree.specs.Tree.{files_from, output_entries, output_faults}
use Rattle.gb_tree.specs.declared.kept.ScannedFile.{ScannedFile}

-- the machine failed between these counts, or it is the first of these faults
abbrev pub CannotRead : ℕ → ℕ → List Fault → Fault → Type 0
CannotRead before after hindrances fault = IsOfMachine before after fault ⊎ (first_of hindrances ≡ Some fault)

-- at or under a root of a file property of the task
abbrev pub is_input_of : Task → Place → Bool
is_input_of task place = list_any (is_under place) (roots_of task)

-- the digests of trees, path by path
abbrev pub digests_in : Trees → List (List ℕ × List (List ℕ × List ℕ))
digests_in trees = map (λ tree. (tree.0, digests_of tree.1)) trees

-- an output of these files, as it is recorded
abbrev pub recorded_of : Files → Output → OutputRecord
recorded_of files output = output_record_of sha256 files output

-- the faults of reading the files of an output
abbrev pub print_faults : Contents → Output → List Fault
print_faults folder output = map reported_of_tree (output_faults output.name output.place folder)

-- ---- What was read once

-- the files of a property or an output as they were read, with its name
abbrev pub Read : Type 0
Read = List ℕ × List ScannedFile

-- the digests that were taken then
abbrev pub prints_read : List Read → List Prints
prints_read readings = map (λ reading. (reading.0, digests_observed reading.1)) readings

-- each file that was read is where the test says
abbrev pub AreWithin : (Place → Bool) → List Read → Type 0
AreWithin test readings =
    AllByRecursion (λ reading. AllByRecursion (λ observed. IsTrue (test observed.place)) reading.1) readings

-- the readings are of the task's file properties, in their order, and of files at their roots
pub record AreInputs (task : Task) (readings : List Read) : Type 0 where
  pub named : map (λ reading. reading.0) readings ≡ map (λ property. property.name) task.files
  pub within : AreWithin (is_input_of task) readings

-- they are of its outputs
pub record AreOutputs (task : Task) (readings : List Read) : Type 0 where
  pub named : map (λ reading. reading.0) readings ≡ map (λ output. output.name) task.outputs
  pub within : AreWithin (is_output_of task) readings

-- the property's files are as they were read
abbrev pub IsPropertyObserved : Files → FileProperty → Read → Type 0
IsPropertyObserved files property reading =
    let entries = entries_of property.naming property.roots property.include property.exclude files in
    AreObserved files entries reading.1

-- the output's files are
abbrev pub IsOutputObserved : Files → Output → Read → Type 0
IsOutputObserved files output reading = AreObserved files (output_entries files output.place) reading.1

-- the files of each of the task's file properties are
abbrev pub AreInputsObserved : Task → Files → List Read → Type 0
AreInputsObserved task files readings = AllZip (IsPropertyObserved files) task.files readings

-- those of each of its outputs are
abbrev pub AreOutputsObserved : Task → Files → List Read → Type 0
AreOutputsObserved task files readings = AllZip (IsOutputObserved files) task.outputs readings

-- ---- What is worked on

-- an output with the files that are there, by their paths
abbrev pub observed_of : Files → Output → OutputFiles
observed_of files output =
    record { name = output.name; form = output.form; files = files_from files output.place }

-- the digests of outputs' files, with their names
abbrev pub prints_observed : List OutputFiles → List Prints
prints_observed outputs = map (λ output. (output.name, digests_of output.files)) outputs

-- an output with these digests, as it is recorded
abbrev pub record_with : Output × Prints → OutputRecord
record_with pair = record { form = pair.0.form; place = pair.0.place; prints = pair.1 }

-- outputs with these digests, in their order
abbrev pub records_with : List Output → List Prints → List OutputRecord
records_with outputs prints = map record_with (zip outputs prints)
