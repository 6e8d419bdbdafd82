-- What the outcome of a task is based on, as calls answered it, over any folder.
use Rattle.std.specs.Prelude.{◌≡◌, true, false, List, Option, Some, ⊤}
use Rattle.gb_history.specs.Decision.{DecidesFrom}
use Rattle.gb_history.specs.Record.{Prints, Record}
use Rattle.gb_history.specs.declared.decide.Decision.{Decision}
use Rattle.gb_history.specs.declared.decide.Decision.TheVariants as decisions
use Rattle.gb_history.specs.declared.decide.Present.{Present}
use Rattle.gb_plan.specs.declared.task.TaskDeclaration.{TaskDeclaration as Task}
use Rattle.gb_report.specs.declared.report.Options.{Options}
use Rattle.gb_label.specs.ReadingAnswered.{AreInputsAnswered, AreOutputsAnswered}
use Rattle.gb_label.specs.Reading.{AreInputs, AreOutputs, Read, prints_read, records_with}
use Rattle.gb_label.specs.Deciding.{IsPresentOf}
use Rattle.gb_label.specs.Looking.{lacks_source}
use Rattle.gb_label.specs.declared.early_outcomes.EarlyCase.{EarlyCase}
use Rattle.gb_label.specs.declared.early_outcomes.EarlyCase.TheVariants as early_cases
use Rattle.gb_label.specs.declared.prepare.Prepared.{Prepared}
use Rattle.gb_label.specs.declared.prepare.Prepared.TheVariants as prepared
use Rattle.gb_folder.specs.Calls.{Device}

-- inputs were answered that give the task no source
abbrev pub WasSourceless : {F : Type 0} → Device F → F → F → Task
    → Type 0
WasSourceless device old new task =
    (inputs : List Read) × AreInputsAnswered device old new task inputs
    × (lacks_source task.files inputs ≡ true)

-- inputs were answered that give it a source
abbrev pub WasSourced : {F : Type 0} → Device F → F → F → Task
    → Type 0
WasSourced device old new task =
    (inputs : List Read) × AreInputsAnswered device old new task inputs
    × (lacks_source task.files inputs ≡ false)

-- If its record is to decide, its inputs were answered, and if it has no source they were found so.
abbrev pub IsEarlyCaseRead : {F : Type 0} → Device F → F → F → Task
    → EarlyCase → Type 0
IsEarlyCaseRead device old new task early_cases.Skips = ⊤
IsEarlyCaseRead device old new task early_cases.HasNoActions = ⊤
IsEarlyCaseRead device old new task early_cases.HasNoSource =
    WasSourceless device old new task
IsEarlyCaseRead device old new task (early_cases.Open inputs) =
    AreInputsAnswered device old new task inputs.items

-- The record that was read finds the task up to date on inputs and outputs with these digests.
pub record IsFoundCurrent (options : Options) (task : Task) (last : Option Record)
    (inputs outputs : List Prints) : Type 0 where
  pub run : Record
  pub read : last ≡ Some run
  pub present : Present
  pub has : IsPresentOf options task inputs (records_with task.outputs outputs) present
  pub decides : DecidesFrom run present decisions.UpToDate

-- What was decided on: outputs that were answered, if the decision is based on them. What is up to date was
-- found so on exactly these and these inputs.
abbrev pub WasDecided : {F : Type 0} → Device F → F → F → Options
    → Task → Option Record → List Read → Decision → List Read → Type 0
WasDecided device old new options task last inputs decisions.UpToDate outputs =
    AreOutputs task outputs × AreOutputsAnswered device old new task outputs
    × IsFoundCurrent options task last (prints_read inputs) (prints_read outputs)
WasDecided device old new options task last inputs (decisions.Incremental changes)
    outputs =
    AreOutputsAnswered device old new task outputs
WasDecided device old new options task last inputs decisions.Full outputs = ⊤

-- an execution is prepared on the basis of what was answered
abbrev pub WasPrepared : {F : Type 0} → Device F → F → F → Options
    → Task → Option Record → Prepared → Type 0
WasPrepared device old new options task last prepared.Skips = ⊤
WasPrepared device old new options task last prepared.HasNoActions = ⊤
WasPrepared device old new options task last prepared.HasNoSource =
    WasSourceless device old new task
WasPrepared device old new options task last (prepared.Decided decision basis observed) =
    AreInputs task observed.inputs.items
    × AreInputsAnswered device old new task observed.inputs.items
    × WasDecided device old new options task last observed.inputs.items decision
    observed.outputs.items
