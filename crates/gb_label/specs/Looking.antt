-- The outcome of a task, if it is known before its record is read.
use Rattle.std.specs.Prelude.{ℕ, ◌≡◌, ◌⊎◌, ◌||◌, ◌&&◌, not, Bool, true, false, List, [], Some}
use Rattle.std.specs.List.{list_any, list_all, zip}
use Rattle.gb_core.specs.Lists.{first_of}
use Rattle.gb_folder.specs.Files.{Contents, is_empty}
use Rattle.gb_semantics.specs.Label.{CannotRead, HasNoActions, HasNoSource, Skips, early_case}
use Rattle.gb_semantics.specs.Tree.{has_no_source, input_faults, trees_of}
use Rattle.gb_plan.specs.declared.task.FileProperty.{FileProperty}
use Rattle.gb_plan.specs.declared.task.TaskDeclaration.{TaskDeclaration as Task}
use Rattle.gb_report.specs.declared.fault.Fault.{Fault}
use Rattle.gb_folder.specs.Faults.{IsOfMachine}
use Rattle.gb_label.specs.Reading.{AreInputs, AreInputsObserved, digests_in, prints_read}
use Rattle.gb_label.specs.declared.early_outcomes.EarlyCase.{EarlyCase}
use Rattle.gb_label.specs.declared.early_outcomes.EarlyCase.TheVariants as early_cases

-- the property gives its task no source: it does not skip it when empty, or has no files
abbrev pub gives_no_source : {X : Type 0} → FileProperty × (List ℕ × List X) → Bool
gives_no_source pair = not pair.0.skip_when_empty || is_empty pair.1.1

-- there are properties that skip the task when empty, and none of them has files
abbrev pub lacks_source : {X : Type 0} → List FileProperty → List (List ℕ × List X) → Bool
lacks_source properties inputs =
    list_any (λ property. property.skip_when_empty) properties
    && list_all gives_no_source (zip properties inputs)

-- What is found is the task's case. If its record is to decide, its inputs can be read and give it a source,
-- and their digests are found. Nothing is claimed about what is at its outputs.
abbrev pub IsCase : Task → Contents → EarlyCase → Type 0
IsCase task folder early_cases.Skips = early_case task folder ≡ Some Skips
IsCase task folder early_cases.HasNoActions = early_case task folder ≡ Some HasNoActions
IsCase task folder early_cases.HasNoSource = early_case task folder ≡ Some HasNoSource
IsCase task folder (early_cases.Open inputs) =
    (input_faults task folder ≡ []) × (has_no_source task folder.files ≡ false)
    × (prints_read inputs.items ≡ digests_in (trees_of task folder.files))
    × AreInputsObserved task folder.files inputs.items

-- what may be found of the task over any folder
abbrev pub MayBe : Task → EarlyCase → Type 0
MayBe task early_cases.Skips = task.runs ≡ false
MayBe task early_cases.HasNoActions = (task.runs ≡ true) × (is_empty task.actions ≡ true)
MayBe task early_cases.HasNoSource =
    (task.runs ≡ true) × (is_empty task.actions ≡ false)
    × (list_any (λ property. property.skip_when_empty) task.files ≡ true)
MayBe task (early_cases.Open inputs) =
    (task.runs ≡ true) × (is_empty task.actions ≡ false)
    × AreInputs task inputs.items × (lacks_source task.files inputs.items ≡ false)

-- the machine failed between these counts, or the fault is the first that prevents reading the task
abbrev pub IsHindered : Task → Contents → ℕ → ℕ → Fault → Type 0
IsHindered task folder before after fault =
    IsOfMachine before after fault
    ⊎ ((hindrances : List Fault) × (early_case task folder ≡ Some (CannotRead hindrances))
    × (first_of hindrances ≡ Some fault))
