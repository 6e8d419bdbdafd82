-- The outcome of a task that starts, as it is prepared before anything is changed.
use Rattle.std.specs.Prelude.{◌≡◌, true, false, Option, Some, None, ⊤}
use Rattle.std.specs.List.{list_any}
use Rattle.gb_folder.specs.Files.{Contents, Files, is_empty}
use Rattle.gb_history.specs.Record.{Record}
use Rattle.gb_history.specs.declared.decide.Decision.{Decision}
use Rattle.gb_history.specs.declared.decide.Decision.TheVariants as decisions
use Rattle.gb_semantics.specs.Label.{HasNoActions, HasNoSource, Skips, early_case}
use Rattle.gb_plan.specs.declared.task.TaskDeclaration.{TaskDeclaration as Task}
use Rattle.gb_report.specs.declared.report.Options.{Options}
use Rattle.gb_label.specs.Reading.{AreInputs, AreInputsObserved, AreOutputs, AreOutputsObserved}
use Rattle.gb_label.specs.Deciding.{FollowsFrom, IsBasisIn, MayDecide}
use Rattle.gb_label.specs.Looking.{lacks_source}
use Rattle.gb_label.specs.declared.prepare.Prepared.{Prepared}
use Rattle.gb_label.specs.declared.prepare.Prepared.TheVariants as prepared
use Rattle.gb_label.specs.declared.prepare.Observed.{Observed}

-- It is the task's early case; if there is none, the decision by its record or without one.
abbrev pub IsPrepared : Options → Task → Contents → Option Record → Prepared → Type 0
IsPrepared options task folder run prepared.Skips = early_case task folder ≡ Some Skips
IsPrepared options task folder run prepared.HasNoActions = early_case task folder ≡ Some HasNoActions
IsPrepared options task folder run prepared.HasNoSource = early_case task folder ≡ Some HasNoSource
IsPrepared options task folder run (prepared.Decided decision basis observed) =
    (early_case task folder ≡ None) × FollowsFrom options task run decision basis
    × IsBasisIn options task folder basis

-- what it may be over any folder
abbrev pub MayPrepare : Task → Prepared → Type 0
MayPrepare task prepared.Skips = task.runs ≡ false
MayPrepare task prepared.HasNoActions = (task.runs ≡ true) × (is_empty task.actions ≡ true)
MayPrepare task prepared.HasNoSource =
    (task.runs ≡ true) × (is_empty task.actions ≡ false)
    × (list_any (λ property. property.skip_when_empty) task.files ≡ true)
MayPrepare task (prepared.Decided decision basis observed) = (task.runs ≡ true)
    × (is_empty task.actions ≡ false) × (lacks_source task.files observed.inputs.items ≡ false)

-- what may be decided over any folder, if that is the outcome
abbrev pub MayDecideAs : Options → Task → Prepared → Type 0
MayDecideAs options task prepared.Skips = ⊤
MayDecideAs options task prepared.HasNoActions = ⊤
MayDecideAs options task prepared.HasNoSource = ⊤
MayDecideAs options task (prepared.Decided decision basis observed) = MayDecide options task decision

-- over any folder a decision follows from what it is based on
abbrev pub FollowsFromAs : Options → Task → Option Record → Prepared → Type 0
FollowsFromAs options task run prepared.Skips = ⊤
FollowsFromAs options task run prepared.HasNoActions = ⊤
FollowsFromAs options task run prepared.HasNoSource = ⊤
FollowsFromAs options task run (prepared.Decided decision basis observed) =
    FollowsFrom options task run decision basis

-- What a run is based on was read: its inputs if it is due, and its outputs if it may execute incrementally.
abbrev pub IsReadFor : Task → Observed → Decision → Type 0
IsReadFor task observed decisions.UpToDate = ⊤
IsReadFor task observed (decisions.Incremental changes) =
    AreInputs task observed.inputs.items × AreOutputs task observed.outputs.items
IsReadFor task observed decisions.Full = AreInputs task observed.inputs.items

abbrev pub IsRead : Task → Prepared → Type 0
IsRead task prepared.Skips = ⊤
IsRead task prepared.HasNoActions = ⊤
IsRead task prepared.HasNoSource = ⊤
IsRead task (prepared.Decided decision basis observed) = IsReadFor task observed decision

-- And it is so in these files, and so are the outputs of what is up to date.
abbrev pub IsObservedFor : Task → Files → Observed → Decision → Type 0
IsObservedFor task files observed decisions.UpToDate = AreOutputsObserved task files observed.outputs.items
IsObservedFor task files observed (decisions.Incremental changes) =
    AreInputsObserved task files observed.inputs.items × AreOutputsObserved task files observed.outputs.items
IsObservedFor task files observed decisions.Full = AreInputsObserved task files observed.inputs.items

abbrev pub IsObserved : Task → Files → Prepared → Type 0
IsObserved task files prepared.Skips = ⊤
IsObserved task files prepared.HasNoActions = ⊤
IsObserved task files prepared.HasNoSource = ⊤
IsObserved task files (prepared.Decided decision basis observed) = IsObservedFor task files observed decision
