-- The record that an entry has: digests in place of contents; and when a folder holds true records.
use Rattle.std.specs.Prelude.{ℕ, ◌≡◌, not, List, ◌++◌, map, Ok, Contains, Option, None, Some, IsTrue, ⊤}
use Rattle.std.specs.FinMap.Entries.{is_sorted}
use Rattle.gb_core.specs.Path.{is_task_path}
use Rattle.std.specs.List.{flat_map, AllByRecursion}
use Rattle.gb_folder.specs.Files.{Place, Bytes, Contents, Files, file_at, files_where, is_own, IsFolder}
use Rattle.gb_core.specs.Lists.{byte_order}
use Rattle.gb_history.specs.Record.{Prints, Record}
use Rattle.gb_history.specs.declared.record.OutputRecord.{OutputRecord}
use Rattle.gb_semantics.specs.Kinds.{Name, Kinds}
use Rattle.gb_plan.specs.Task.{Path}
use Rattle.gb_plan.specs.declared.task.Output.{Output}
use Rattle.gb_action.specs.Files.{Tree, Trees}
use Rattle.gb_tree.specs.Tree.{files_from}
use Rattle.gb_semantics.specs.Made.{made_of}
use Rattle.gb_semantics.specs.Memory.{Entry, Memory, World, recalled}

-- the digests of a tree's files by their paths, with its name
abbrev pub print_of : (Bytes → List ℕ) → Name × Tree → Prints
print_of digest tree = (tree.0, map (λ file. (file.0, digest file.1)) tree.1)

abbrev pub prints_of : (Bytes → List ℕ) → Trees → List Prints
prints_of digest trees = map (print_of digest) trees

-- an output of these files, with the digests of its own by their paths from its place
abbrev pub output_record_of : (Bytes → List ℕ) → Files → Output → OutputRecord
output_record_of digest files output = record {
  form = output.form;
  place = output.place;
  prints = print_of digest (output.name, files_from files output.place);
}

-- the record of an entry
abbrev pub record_of : (Bytes → List ℕ) → Entry → Record
record_of digest entry = record {
  actions = entry.actions;
  values = entry.values;
  inputs = prints_of digest entry.inputs;
  outputs = map (output_record_of digest entry.files) entry.outputs;
}

-- the outputs are what the actions make of the inputs; it does not say when
abbrev pub IsMade : Kinds → Entry → Type 0
IsMade kinds entry = made_of kinds entry.actions entry.values entry.inputs entry.outputs ≡ Ok entry.files

abbrev pub contents_in : Trees → List Bytes
contents_in trees = flat_map (λ tree. map (λ file. file.1) tree.1) trees

abbrev pub contents_of : Entry → List Bytes
contents_of entry = contents_in entry.inputs ++ map (λ file. file.1) entry.files

-- no two contents of the set share a digest
abbrev pub AreCollisionFree : (Bytes → List ℕ) → List Bytes → Type 0
AreCollisionFree digest contents =
    (a b : Bytes) → Contains contents a → Contains contents b → digest a ≡ digest b → a ≡ b

-- ---- The memory that a folder holds

-- the folder outside `.gb`
abbrev pub outside : Contents → Contents
outside folder = record folder { files = files_where (λ place. not (is_own place)) folder.files }

-- When a text is that of this record of this task.
abbrev pub RecordTexts : Type 1
RecordTexts = Path → Record → Bytes → Type 0

-- no text of a record of the task is left
abbrev pub IsTextOfNoRecord : RecordTexts → Path → Option Bytes → Type 0
IsTextOfNoRecord says path None = ⊤
IsTextOfNoRecord says path (Some bytes) = (said : Record) → ¬ says path said bytes

-- what is left is the text of the entry's record, or without an entry that of no record
abbrev pub Stores : (Bytes → List ℕ) → RecordTexts → Path → Option Bytes → Option Entry → Type 0
Stores digest says path left None = IsTextOfNoRecord says path left
Stores digest says path left (Some entry) =
    (bytes : Bytes) × (left ≡ Some bytes) × says path (record_of digest entry) bytes

-- A folder holds the records of this memory, and all entries of it are true.
pub record HoldsTrue (kinds : Kinds) (digest : Bytes → List ℕ) (says : RecordTexts)
    (record_place : Path → Place) (folder : Contents) (memory : Memory) : Type 0 where
  pub is_folder : IsFolder folder.files
  pub in_order : IsTrue (is_sorted byte_order memory)
  pub of_tasks : AllByRecursion (λ entry. IsTrue (is_task_path entry.0)) memory
  pub records : (path : Path) → IsTrue (is_task_path path)
      → Stores digest says path (file_at folder.files (record_place path)) (recalled memory path)
  pub made : AllByRecursion (λ entry. IsMade kinds entry.1) memory

-- all contents in a world's memory
abbrev pub memory_contents : World → List Bytes
memory_contents world = flat_map (λ entry. contents_of entry.1) world.memory
