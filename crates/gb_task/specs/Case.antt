-- The case of a task's execution by whole contents, in the terms of builds; and that digests yield the same
-- case.
use Rattle.std.specs.Prelude.{◌≡◌, false, [], map, Option, Some, None, IsTrue}
use Rattle.std.specs.List.{flat_map, list_any}
use Rattle.gb_folder.specs.Files.{Contents, Files, is_own}
use Rattle.gb_history.specs.Record.{Record}
use Rattle.gb_history.specs.declared.decide.Decision.{Decision}
use Rattle.gb_history.specs.declared.decide.Decision.TheVariants as decisions
use Rattle.gb_history.specs.declared.decide.Present.{Present}
use Rattle.gb_label.specs.Deciding.{IsDecided, IsPresentOf}
use Rattle.gb_label.specs.Preparing.{IsPrepared}
use Rattle.gb_label.specs.declared.prepare.Prepared.{Prepared}
use Rattle.gb_label.specs.declared.prepare.Prepared.TheVariants as prepared
use Rattle.gb_label.specs.Reading.{digests_in, print_faults, recorded_of}
use Rattle.gb_semantics.specs.Kinds.{Kinds}
use Rattle.gb_semantics.specs.Label.{HasNoActions, HasNoSource, IsCurrent, IsIncremental, Skips}
use Rattle.gb_semantics.specs.Label.{changes_from, early_case, has_one_writer}
use Rattle.gb_semantics.specs.Memory.{Entry, World, output_files, recalled}
use Rattle.gb_semantics.specs.Tree.{listing_faults, trees_of}
use Rattle.gb_semantics.specs.TrueRecord.{IsMade, outside}
use Rattle.gb_plan.specs.declared.task.TaskDeclaration.{TaskDeclaration as Task}
use Rattle.gb_records.specs.Digests.{IsClearTo, IsPresent}
use Rattle.gb_records.specs.Said.{IsSaidOf}
use Rattle.gb_report.specs.declared.report.Options.{Options}

-- What was read of the task is the record of what is remembered of it; and what is remembered is true, and
-- collision-free with what the task has now.
abbrev pub IsKnown : Kinds → Task → World → Option Record → Type 0
IsKnown kinds task world None = recalled world.memory task.path ≡ None
IsKnown kinds task world (Some run) =
    (entry : Entry) × (recalled world.memory task.path ≡ Some entry) × IsSaidOf run entry
    × IsClearTo kinds task world.folder.files entry

-- What a decision is by whole contents: the task is current; or it is not, and is incremental by these
-- changes where one action writes; or it is neither current nor incremental.
abbrev pub IsCaseFor : Kinds → Options → Task → World → Decision → Type 0
IsCaseFor kinds options task world decisions.UpToDate = IsCurrent options task world
IsCaseFor kinds options task world (decisions.Incremental changes) =
    (¬ IsCurrent options task world)
    × (IsTrue (has_one_writer kinds task.actions) → (since : IsIncremental kinds options task world)
    × (changes ≡ changes_from task since.entry.inputs world.folder.files))
IsCaseFor kinds options task world decisions.Full =
    (¬ IsCurrent options task world) × (¬ IsIncremental kinds options task world)

-- what an execution is prepared for, by whole contents
abbrev pub IsCaseOf : Kinds → Options → Task → World → Prepared → Type 0
IsCaseOf kinds options task world prepared.Skips = early_case task world.folder ≡ Some Skips
IsCaseOf kinds options task world prepared.HasNoActions = early_case task world.folder ≡ Some HasNoActions
IsCaseOf kinds options task world prepared.HasNoSource = early_case task world.folder ≡ Some HasNoSource
IsCaseOf kinds options task world (prepared.Decided decision basis observed) =
    (early_case task world.folder ≡ None) × IsCaseFor kinds options task world decision

-- ---- Laws

-- what is compared with a record is what the task has now
abbrev pub PresentIsOfContents : Type 0
PresentIsOfContents =
    (options : Options) (task : Task) (files : Files) (present : Present)
    → IsPresentOf options task (digests_in (trees_of task files)) (map (recorded_of files) task.outputs)
    present
    → IsPresent options task files present

-- where the task's outputs are as a run left them that ended well, without special files, they can be read
abbrev pub MadeIsNotGrown : Type 0
MadeIsNotGrown =
    (kinds : Kinds) (task : Task) (folder : Contents) (entry : Entry) → IsMade kinds entry
    → entry.outputs ≡ task.outputs → entry.files ≡ output_files task folder.files
    → listing_faults task folder ≡ [] → flat_map (print_faults folder) task.outputs ≡ []

-- what is decided of a task that has a source is its case
abbrev pub DecisionIsCase : Type 0
DecisionIsCase =
    (kinds : Kinds) (options : Options) (task : Task) (world : World) (read : Option Record)
    (decision : Decision) → IsKnown kinds task world read → early_case task world.folder ≡ None
    → IsDecided options task world.folder read decision → IsCaseFor kinds options task world decision

-- what an execution is prepared for is its case
abbrev pub PreparedIsCase : Type 0
PreparedIsCase =
    (kinds : Kinds) (options : Options) (task : Task) (world : World) (read : Option Record)
    (prepared : Prepared) → IsKnown kinds task world read
    → IsPrepared options task world.folder read prepared → IsCaseOf kinds options task world prepared

-- what is decided in a whole folder is decided without the tool's own files, if no output is one of these
abbrev pub DecidedOutside : Type 0
DecidedOutside =
    (options : Options) (task : Task) (folder : Contents) (read : Option Record) (decision : Decision)
    → list_any (λ output. is_own output.place) task.outputs ≡ false
    → IsDecided options task folder read decision → IsDecided options task (outside folder) read decision

-- an execution is prepared in a whole folder as without the tool's own files, if no output is the tool's own
abbrev pub OutsideIsEnough : Type 0
OutsideIsEnough =
    (options : Options) (task : Task) (folder : Contents) (read : Option Record) (prepared : Prepared)
    → list_any (λ output. is_own output.place) task.outputs ≡ false
    → IsPrepared options task folder read prepared → IsPrepared options task (outside folder) read prepared
