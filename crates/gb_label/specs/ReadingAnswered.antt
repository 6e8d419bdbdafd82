-- What an execution reads of its task as calls answered it, over any folder.
use Rattle.std.specs.Prelude.{ℕ, List}
use Rattle.std.specs.List.{AllZip}
use Rattle.gb_action.specs.Files.{Trees}
use Rattle.gb_action.specs.declared.output_files.OutputFiles.{OutputFiles}
use Rattle.gb_folder.specs.Files.{Files}
use Rattle.gb_plan.specs.declared.task.FileProperty.{FileProperty}
use Rattle.gb_plan.specs.declared.task.Output.{Output}
use Rattle.gb_plan.specs.declared.task.TaskDeclaration.{TaskDeclaration as Task}
use Rattle.gb_tree.specs.Answered.{AreEntriesListed, AreOutputEntriesListed, IsTreeRead, WereObserved}
use Rattle.gb_tree.specs.Reading.{entries_observed}
use Rattle.gb_tree.specs.Tree.{Entries}
use Rattle.gb_label.specs.Reading.{Read}
use Rattle.gb_folder.specs.Calls.{Device}

-- the entries of a property as the places where it looks for them were listed
abbrev pub AreEntriesOf : {F : Type 0} → Device F → F → F
    → FileProperty → Entries → Type 0
AreEntriesOf device old new property entries =
    AreEntriesListed device property.naming property.roots property.include
    property.exclude
    old new entries

-- ---- Digests, and the bytes that are kept

-- the files of a property were listed, and each was read
abbrev pub IsInputAnswered : {F : Type 0} → Device F → F → F
    → FileProperty → Read → Type 0
IsInputAnswered device old new property reading =
    AreEntriesOf device old new property (entries_observed reading.1)
    × WereObserved device old new reading.1

-- those of an output were
abbrev pub IsOutputAnswered : {F : Type 0} → Device F → F → F
    → Output → Read → Type 0
IsOutputAnswered device old new output reading =
    AreOutputEntriesListed device old new output.place (entries_observed reading.1)
    × WereObserved device old new reading.1

-- those of all properties, and of all outputs, were
abbrev pub AreInputsAnswered : {F : Type 0} → Device F → F → F
    → Task → List Read → Type 0
AreInputsAnswered device old new task readings =
    AllZip (IsInputAnswered device old new) task.files readings

abbrev pub AreOutputsAnswered : {F : Type 0} → Device F → F → F
    → Task → List Read → Type 0
AreOutputsAnswered device old new task readings =
    AllZip (IsOutputAnswered device old new) task.outputs readings

-- ---- Contents

-- the tree of a property, as its files were listed and read
abbrev pub IsInputRead : {F : Type 0} → Device F → F → F
    → FileProperty → List ℕ × Files → Type 0
IsInputRead device old new property tree =
    (entries : Entries) × AreEntriesOf device old new property entries
    × IsTreeRead device old new entries tree.1

-- the files of an output, as they were listed and read
abbrev pub IsOutputRead : {F : Type 0} → Device F → F → F
    → Output → OutputFiles → Type 0
IsOutputRead device old new output observed =
    (entries : Entries) × AreOutputEntriesListed device old new output.place entries
    × IsTreeRead device old new entries observed.files

-- those of all properties, and of all outputs
abbrev pub AreInputsRead : {F : Type 0} → Device F → F → F → Task
    → Trees → Type 0
AreInputsRead device old new task trees =
    AllZip (IsInputRead device old new) task.files trees

abbrev pub AreOutputsRead : {F : Type 0} → Device F → F → F → Task
    → List OutputFiles → Type 0
AreOutputsRead device old new task observed =
    AllZip (IsOutputRead device old new) task.outputs observed
