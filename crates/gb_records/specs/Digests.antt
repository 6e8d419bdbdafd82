-- What digests imply for whole contents.
use Rattle.std.specs.Prelude.{◌≡◌, ◌↔◌, ◌++◌, false, map, Some, IsTrue}
use Rattle.std.specs.List.{filter, list_any}
use Rattle.sha2.specs.Sha256.{sha256}
use Rattle.gb_report.specs.declared.report.Options.{Options}
use Rattle.gb_folder.specs.Files.{Files, IsFolder, are_placed, is_own}
use Rattle.gb_plan.specs.declared.task.TaskDeclaration.{TaskDeclaration as Task}
use Rattle.gb_history.specs.Record.{Record, AreInOrder}
use Rattle.gb_history.specs.Decision.{IsSince, IsUpToDate, changes_since}
use Rattle.gb_history.specs.declared.decide.Present.{Present}
use Rattle.gb_semantics.specs.Kinds.{Kinds}
use Rattle.gb_semantics.specs.Label.{IsCurrent, IsIncremental, changes_from, has_one_writer}
use Rattle.gb_semantics.specs.Memory.{Entry, World, entry_of, recalled}
use Rattle.gb_semantics.specs.TrueRecord.{AreCollisionFree, IsMade, contents_of, record_of}
use Rattle.gb_records.specs.Said.{IsSaidOf}

-- The entry is true, the folder's files are at places, no output is the tool's own, and no two contents of
-- the entry and of what the task has now share a digest.
pub record IsClearTo (kinds : Kinds) (task : Task) (files : Files) (entry : Entry) : Type 0 where
  pub is_made : IsMade kinds entry
  pub is_folder : IsFolder files
  pub placed : IsTrue (are_placed files)
  pub not_own : list_any (λ output. is_own output.place) task.outputs ≡ false
  pub separate : AreCollisionFree sha256 (contents_of entry ++ contents_of (entry_of task files))

-- equal digests mean equal contents
abbrev pub RecordsDetermineEntries : Type 0
RecordsDetermineEntries =
    (kinds : Kinds) (task : Task) (files : Files) (entry : Entry) → IsClearTo kinds task files entry
    → record_of sha256 entry ≡ record_of sha256 (entry_of task files) → entry ≡ entry_of task files

-- What a task has now, by digests, and what is requested of it.
pub record IsPresent (options : Options) (task : Task) (files : Files) (present : Present) : Type 0 where
  pub now : IsSaidOf present.now (entry_of task files)
  pub in_order : AreInOrder present.now
  pub incremental : present.incremental.items
      ≡ map (λ property. property.name) (filter (λ property. property.incremental) task.files)
  pub rerun : present.rerun ≡ options.rerun
  pub stale : present.is_stale ≡ task.is_stale

-- a task is up to date by its record exactly if it is by whole contents
abbrev pub UpToDateIsCurrent : Type 0
UpToDateIsCurrent =
    (kinds : Kinds) (options : Options) (task : Task) (world : World) (entry : Entry) (run : Record)
    (present : Present) → recalled world.memory task.path ≡ Some entry → IsSaidOf run entry
    → IsPresent options task world.folder.files present → IsClearTo kinds task world.folder.files entry
    → IsUpToDate run present ↔ IsCurrent options task world

-- by its record it may execute incrementally, and one action writes, exactly if it does by whole contents
abbrev pub SinceIsIncremental : Type 0
SinceIsIncremental =
    (kinds : Kinds) (options : Options) (task : Task) (world : World) (entry : Entry) (run : Record)
    (present : Present) → recalled world.memory task.path ≡ Some entry → IsSaidOf run entry
    → IsPresent options task world.folder.files present → IsClearTo kinds task world.folder.files entry
    → (IsSince run present × IsTrue (has_one_writer kinds task.actions))
    ↔ IsIncremental kinds options task world

-- the changes of its digests are those of the contents
abbrev pub ChangesAreOfContents : Type 0
ChangesAreOfContents =
    (kinds : Kinds) (options : Options) (task : Task) (files : Files) (entry : Entry) (run : Record)
    (present : Present) → IsSaidOf run entry → IsPresent options task files present
    → IsClearTo kinds task files entry → IsSince run present
    → changes_since run present ≡ changes_from task entry.inputs files
