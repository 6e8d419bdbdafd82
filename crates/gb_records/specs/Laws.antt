-- What whole builds may assume of records and of their places.
use Rattle.std.specs.Prelude.{◌≡◌, ◌≤◌, not, length, IsTrue}
use Rattle.std.specs.List.{AllByRecursion}
use Rattle.sha2.specs.Sha256.{sha256}
use Rattle.gb_core.specs.Path.{is_task_path}
use Rattle.gb_core.specs.Place.{is_beneath}
use Rattle.gb_folder.specs.Files.{Place, Bytes, Files, Contents, DiffersOnlyAt, IsFolder, is_own}
use Rattle.gb_plan.specs.Task.{Path}
use Rattle.gb_history.specs.Record.{Record, IsWellFormed}
use Rattle.gb_history.specs.Places.{record_place}
use Rattle.gb_history.specs.Text.{record_text}
use Rattle.gb_semantics.specs.Events.{max_record}
use Rattle.gb_semantics.specs.Kinds.{Kinds}
use Rattle.gb_semantics.specs.Memory.{Memory}
use Rattle.gb_semantics.specs.TrueRecord.{RecordTexts, HoldsTrue, IsMade}
use Rattle.gb_records.specs.Said.{IsText}
use Rattle.gb_records.specs.Holding.{HoldsRecords}

-- How records read, where each is, and which text is written for one, as builds require.
pub record AreRecords (says : RecordTexts) (exists_at : Path → Place)
    (written : Path → Record → Bytes) : Type 0 where
  -- a text is that of one record of a task at most
  pub one : (path : Path) (one other : Record) (bytes : Bytes) → says path one bytes → says path other bytes
      → one ≡ other
  -- none is above 64 MiB
  pub short : (path : Path) (run : Record) (bytes : Bytes) → says path run bytes → length bytes ≤ max_record
  -- the text that is written for a record is one of it
  pub back : (path : Path) (run : Record) → IsTrue (is_task_path path) → IsWellFormed run
      → length (written path run) ≤ max_record → says path run (written path run)
  -- records are where the tool keeps its own
  pub own : (path : Path) → IsTrue (is_own (exists_at path))
  -- two tasks' records are not at one place, nor is one under another
  pub separate : (one other : Path) → IsTrue (is_task_path one) → IsTrue (is_task_path other)
      → exists_at one ≡ exists_at other → one ≡ other
  pub none_beneath : (one other : Path) → IsTrue (is_task_path one) → IsTrue (is_task_path other)
      → ¬ IsTrue (is_beneath (exists_at one) (exists_at other))

abbrev pub TextsAreRecords : Type 0
TextsAreRecords = AreRecords IsText record_place record_text

-- if files differ outside of the tool's own alone, they have the same records
abbrev pub HoldsElsewhere : Type 0
HoldsElsewhere =
    (old new : Files) (memory : Memory) → DiffersOnlyAt (λ place. not (is_own place)) old new
    → HoldsRecords old memory → HoldsRecords new memory

-- a folder whose files hold the records of a memory that is true represents it
abbrev pub HoldsForMemory : Type 0
HoldsForMemory =
    (kinds : Kinds) (folder : Contents) (memory : Memory) → IsFolder folder.files
    → AllByRecursion (λ entry. IsMade kinds entry.1) memory → HoldsRecords folder.files memory
    → HoldsTrue kinds sha256 IsText record_place folder memory
