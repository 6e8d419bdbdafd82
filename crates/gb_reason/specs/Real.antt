-- What a reason means, and what follows from the definition of reasons.
use Rattle.std.specs.Prelude.{◌≡◌, ◌≢◌, ◌↔◌, ◌+◌, ℕ, true, false, List, [], ◌∷◌, ◌++◌, map, length}
use Rattle.std.specs.Prelude.{Option, Some, None, IsTrue, Contains}
use Rattle.std.specs.List.{AllByRecursion}
use Rattle.std.specs.FinMap.Entries.{is_sorted}
use Rattle.gb_core.specs.Lists.{byte_order}
use Rattle.gb_core.specs.declared.value.Value.{Value}
use Rattle.gb_action.specs.Changes.{IsChange}
use Rattle.gb_action.specs.Files.{Tree}
use Rattle.gb_action.specs.declared.change.Change.{Change}
use Rattle.gb_action.specs.declared.output_files.Form.{Form}
use Rattle.gb_folder.specs.Files.{is_empty}
use Rattle.gb_history.specs.Decision.{Decides, IsSince, changes_since}
use Rattle.gb_history.specs.Record.{Record, prints_in}
use Rattle.gb_history.specs.declared.decide.Decision.{Decision}
use Rattle.gb_history.specs.declared.decide.Decision.TheVariants as decisions
use Rattle.gb_history.specs.declared.decide.Present.{Present}
use Rattle.gb_history.specs.declared.record.OutputRecord.{OutputRecord}
use Rattle.gb_plan.specs.declared.task.Action.{Action}
use Rattle.gb_reason.specs.Reasons.{change_reasons, reasons_of}
use Rattle.gb_reason.specs.declared.reason.Reason.{Reason}
use Rattle.gb_reason.specs.declared.reason.Reason.TheVariants as reasons

-- the names by which things are recorded
abbrev pub names : {X : Type 0} → List (List ℕ × X) → List (List ℕ)
names rows = map (λ row. row.0) rows

-- an output without its files
abbrev pub declared : OutputRecord → List ℕ × Form × List ℕ
declared output = (output.prints.0, output.form, output.place)

-- its kind
abbrev pub kind_of : Action → List ℕ
kind_of action = action.kind

-- one of the second actions is of this kind, and none of the first
abbrev pub IsOfOne : List Action → List Action → List ℕ → Type 0
IsOfOne without with kind =
    Contains (map kind_of with) kind × (¬ Contains (map kind_of without) kind)

-- an action of the one record and an action of the other, both of this kind
abbrev pub AreOfKind : Record → Record → List ℕ → Action → Action → Type 0
AreOfKind old new kind was is =
    Contains old.actions was × Contains new.actions is × (was.kind ≡ kind) × (is.kind ≡ kind)

-- the value of this number, counted from 1
abbrev pub IsArgument : List Value → ℕ → Value → Type 0
IsArgument args number value =
    (before : List Value) × (following : List Value) × (args ≡ before ++ value ∷ following)
    × (number ≡ length before + 1)

-- an input value of this name is not what it was
abbrev pub IsOtherValue : Record → Record → List ℕ → Value → Value → Type 0
IsOtherValue old new name was is =
    Contains old.values (name, was) × Contains new.values (name, is) × (was ≢ is)

-- the files of the output at this place changed in this way
abbrev pub IsOutputChange : Record → Record → List ℕ → Change → Type 0
IsOutputChange old new place change =
    (left : OutputRecord) × (exists : OutputRecord) × Contains old.outputs left × Contains new.outputs exists
    × (left.place ≡ place) × (exists.place ≡ place) × IsChange left.prints.1 exists.prints.1 change

-- the files of this property changed in this way
abbrev pub IsFileChange : Record → Record → List ℕ → Change → Type 0
IsFileChange old new name change =
    (read : Tree) × (exists : Tree) × Contains old.inputs (name, read) × Contains new.inputs (name, exists)
    × IsChange read exists change

-- the reason is true of a record and of what the task has now
abbrev pub IsRealFrom : Record → Present → Reason → Type 0
IsRealFrom run present reasons.NoRecord = ⊥
IsRealFrom run present reasons.Rerun = present.rerun ≡ true
IsRealFrom run present reasons.Stale = present.is_stale ≡ true
IsRealFrom run present reasons.NoOutputs = present.now.outputs ≡ []
IsRealFrom run present (reasons.ActionAdded kind) = IsOfOne run.actions present.now.actions kind
IsRealFrom run present (reasons.ActionRemoved kind) = IsOfOne present.now.actions run.actions kind
IsRealFrom run present reasons.ActionOrder = map kind_of run.actions ≢ map kind_of present.now.actions
IsRealFrom run present (reasons.ActionVersion kind) = (old : Action) × (new : Action)
    × AreOfKind run present.now kind old new × (old.version ≢ new.version)
IsRealFrom run present (reasons.ArgumentCount kind) = (old : Action) × (new : Action)
    × AreOfKind run present.now kind old new × (length old.args ≢ length new.args)
IsRealFrom run present (reasons.Argument kind number was is) = (old : Action) × (new : Action)
    × AreOfKind run present.now kind old new × IsArgument old.args number was
    × IsArgument new.args number is × (was ≢ is)
IsRealFrom run present reasons.ValueNames = names run.values ≢ names present.now.values
IsRealFrom run present (reasons.Value name was is) = IsOtherValue run present.now name was is
IsRealFrom run present reasons.OutputNames = map declared run.outputs ≢ map declared present.now.outputs
IsRealFrom run present (reasons.Output place change) = IsOutputChange run present.now place change
IsRealFrom run present reasons.FileNames = names run.inputs ≢ names present.now.inputs
IsRealFrom run present (reasons.File name change) = IsFileChange run present.now name change

abbrev pub IsReal : Option Record → Present → Reason → Type 0
IsReal None present reasons.NoOutputs = present.now.outputs ≡ []
IsReal None present reasons.NoRecord = present.now.outputs ≢ []
IsReal None present other = ⊥
IsReal (Some run) present reason = IsRealFrom run present reason

-- each reason is true
abbrev pub EachIsReal : Type 0
EachIsReal =
    (old : Option Record) (present : Present) (reason : Reason)
    → Contains (reasons_of old present) reason → IsReal old present reason

-- the paths of each property and of each output strictly rise, as they do in any record
pub record HasPathsInOrder (run : Record) : Type 0 where
  pub inputs : AllByRecursion (λ prints. IsTrue (is_sorted byte_order prints.1)) run.inputs
  pub outputs : AllByRecursion (λ prints. IsTrue (is_sorted byte_order prints.1)) (prints_in run.outputs)

-- there is none exactly if the task is up to date
abbrev pub NoneIsUpToDate : Type 0
NoneIsUpToDate =
    (old : Option Record) (present : Present) (decision : Decision)
    → ((run : Record) → old ≡ Some run → HasPathsInOrder run) → HasPathsInOrder present.now
    → Decides old present decision → (reasons_of old present ≡ []) ↔ (decision ≡ decisions.UpToDate)

-- if a task with outputs may run incrementally, the reasons are just the changes
abbrev pub ChangesAreReasons : Type 0
ChangesAreReasons =
    (run : Record) (present : Present) → IsSince run present → is_empty present.now.outputs ≡ false
    → reasons_of (Some run) present ≡ change_reasons (changes_since run present)
