-- The decision on a task that has a source.
use Rattle.std.specs.Prelude.{ℕ, ◌≡◌, ◌⊎◌, true, false, Option, None, Some, map, IsTrue, List, ⊤}
use Rattle.std.specs.List.{filter, flat_map}
use Rattle.gb_folder.specs.Files.{Contents, Files, Place, is_empty}
use Rattle.gb_history.specs.Ascending.{ascends}
use Rattle.gb_history.specs.Decision.{DecidesFrom}
use Rattle.gb_history.specs.Record.{AreInOrder, Prints, Record}
use Rattle.gb_history.specs.declared.decide.Decision.{Decision}
use Rattle.gb_history.specs.declared.decide.Decision.TheVariants as decisions
use Rattle.gb_history.specs.declared.decide.Decision.TheVariants.{Full}
use Rattle.gb_history.specs.declared.decide.Present.{Present}
use Rattle.gb_history.specs.declared.record.OutputRecord.{OutputRecord}
use Rattle.gb_semantics.specs.Outline.{MayAnswer}
use Rattle.gb_semantics.specs.Tree.{trees_of}
use Rattle.gb_plan.specs.declared.task.FileProperty.{FileProperty}
use Rattle.gb_plan.specs.declared.task.TaskDeclaration.{TaskDeclaration as Task}
use Rattle.gb_report.specs.declared.fault.Fault.{Fault}
use Rattle.gb_report.specs.declared.fault.Fault.TheVariants as faults
use Rattle.gb_report.specs.declared.report.Options.{Options}
use Rattle.gb_report.specs.declared.report.Outcome.TheVariants as outcomes
use Rattle.gb_label.specs.declared.deciding.Basis.{Basis}
use Rattle.gb_label.specs.declared.deciding.Basis.TheVariants as bases
use Rattle.gb_label.specs.declared.deciding.FullReason.{FullReason}
use Rattle.gb_label.specs.declared.deciding.FullReason.TheVariants as causes
use Rattle.gb_label.specs.Reading.{AreOutputs, AreOutputsObserved, Read, digests_in, print_faults}
use Rattle.gb_label.specs.Reading.{recorded_of}

-- the names of the task's values, file properties and outputs strictly rise
pub record HasNamesInOrder (task : Task) : Type 0 where
  pub values : IsTrue (ascends (map (λ value. value.0) task.values))
  pub files : IsTrue (ascends (map (λ property. property.name) task.files))
  pub outputs : IsTrue (ascends (map (λ output. output.name) task.outputs))

-- the names of the properties that are incremental
abbrev pub incremental_names : List FileProperty → List (List ℕ)
incremental_names properties =
    map (λ property. property.name) (filter (λ property. property.incremental) properties)

-- what a task with these prints has now
pub record IsPresentOf (options : Options) (task : Task) (inputs : List Prints) (outputs : List OutputRecord)
    (present : Present) : Type 0 where
  pub in_order : AreInOrder present.now
  pub now : present.now
      ≡ record { actions = task.actions; values = task.values; inputs = inputs; outputs = outputs }
  pub incremental : present.incremental.items ≡ incremental_names task.files
  pub rerun : present.rerun ≡ options.rerun
  pub stale : present.is_stale ≡ task.is_stale

-- the cause to run in full holds of a task with this record; a record that counts is considered last
abbrev pub IsFullReason : Options → Task → Option Record → FullReason → Type 0
IsFullReason options task None causes.NoRecord = ⊤
IsFullReason options task (Some run) causes.Rerun = options.rerun ≡ true
IsFullReason options task (Some run) causes.Stale = (options.rerun ≡ false) × (task.is_stale ≡ true)
IsFullReason options task (Some run) causes.Grown = (options.rerun ≡ false) × (task.is_stale ≡ false)
IsFullReason options task old other = ⊥

-- The decision follows from its basis: a cause to run in full, or the record and what the task has now.
abbrev pub FollowsFrom : Options → Task → Option Record → Decision → Basis → Type 0
FollowsFrom options task old decision (bases.Forced cause) =
    (decision ≡ Full) × IsFullReason options task old cause
FollowsFrom options task (Some run) decision (bases.Compared present) = DecidesFrom run present decision
FollowsFrom options task None decision (bases.Compared present) = ⊥

-- The basis holds in this folder: the outputs are such as no execution leaves, or it is what the task has.
abbrev pub IsBasisIn : Options → Task → Contents → Basis → Type 0
IsBasisIn options task folder (bases.Forced causes.Grown) =
    is_empty (flat_map (print_faults folder) task.outputs) ≡ false
IsBasisIn options task folder (bases.Forced other) = ⊤
IsBasisIn options task folder (bases.Compared present) =
    IsPresentOf options task (digests_in (trees_of task folder.files))
    (map (recorded_of folder.files) task.outputs) present

-- the decision on a task with this record in this folder
abbrev pub IsDecided : Options → Task → Contents → Option Record → Decision → Type 0
IsDecided options task folder old decision =
    (basis : Basis) × FollowsFrom options task old decision basis × IsBasisIn options task folder basis

-- what may be decided over any folder: a task is up to date only if it may be reported so
abbrev pub MayDecide : Options → Task → Decision → Type 0
MayDecide options task decisions.UpToDate = MayAnswer options task outcomes.UpToDate
MayDecide options task (decisions.Incremental changes) = ⊤
MayDecide options task decisions.Full = ⊤

-- the fault says that an output is such as no run leaves: a file too large, or too many files
abbrev pub IsGrown : Fault → Type 0
IsGrown fault =
    ((place : Place) × (fault ≡ faults.TooLarge place))
    ⊎ ((name : List ℕ) × (fault ≡ faults.TooManyFiles name))

-- if it may execute incrementally, its outputs were read
abbrev pub AreOutputsFor : Task → Decision → List Read → Type 0
AreOutputsFor task decisions.UpToDate outputs = ⊤
AreOutputsFor task (decisions.Incremental changes) outputs = AreOutputs task outputs
AreOutputsFor task decisions.Full outputs = ⊤

-- What was compared with a record is so in these files.
abbrev pub AreOutputsObservedFor : Task → Files → Decision → List Read → Type 0
AreOutputsObservedFor task files decisions.UpToDate outputs = AreOutputsObserved task files outputs
AreOutputsObservedFor task files (decisions.Incremental changes) outputs = AreOutputsObserved task files
    outputs
AreOutputsObservedFor task files decisions.Full outputs = ⊤
