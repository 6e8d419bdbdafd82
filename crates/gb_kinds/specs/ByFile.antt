-- The kinds that work file by file: what they make, and what they reply.
use Rattle.std.specs.Prelude.{◌≡◌, ℕ, Bool, true, false, List, [], ◌∷◌, ◌++◌, map, codes, bytes_eq}
use Rattle.std.specs.Prelude.{if◌then◌else◌, Option, Some, None, unwrap_or}
use Rattle.std.specs.List.{flat_map}
use Rattle.std.specs.FinMap.Entries.{find}
use Rattle.gb_core.specs.Lists.{byte_order}
use Rattle.gb_action.specs.Files.{Tree, file_at, tree_at}
use Rattle.gb_action.specs.Changes.{Changes}
use Rattle.gb_action.specs.Outputs.{exists_at}
use Rattle.gb_action.specs.Shapes.{source, target}
use Rattle.gb_action.specs.declared.change.Change.{Change}
use Rattle.gb_action.specs.declared.change.Change.TheVariants.{Added, Modified, Removed}
use Rattle.gb_action.specs.declared.output_files.OutputFiles.{OutputFiles}
use Rattle.gb_action.specs.declared.reply.OutputPath.{OutputPath}
use Rattle.gb_action.specs.declared.reply.Reply.{Reply}
use Rattle.gb_action.specs.declared.reply.Written.{Written}
use Rattle.gb_action.specs.declared.request.Request.{Request}
use Rattle.gb_kinds.specs.Contents.{sum_line, kept_lines, with_value}
use Rattle.gb_kinds.specs.declared.edit.FileEdit.{FileEdit}
use Rattle.gb_kinds.specs.declared.edit.FileEdit.TheVariants.{Copy, ReplaceToken, KeepLines, Sum}

-- a file of the output that kinds write
abbrev pub file_of : List ℕ → List ℕ → Written
file_of path bytes = record { output = target; path = path; bytes = bytes }

-- each file, at the same path, with its bytes edited
abbrev pub by_file : (List ℕ → List ℕ) → Tree → List Written
by_file edit files = map (λ file. file_of file.0 (edit file.1)) files

-- the bytes of all files, one after another
abbrev pub all_bytes : Tree → List ℕ
all_bytes files = flat_map (λ file. file.1) files

-- the reply that writes one file and does nothing else
abbrev pub one_file : List ℕ → List ℕ → Reply
one_file path bytes = record { removes = []; writes = file_of path bytes ∷ []; lines = [] }

-- the result of the edit on a file's bytes
abbrev pub edited : FileEdit → List ℕ → List ℕ
edited Copy bytes = bytes
edited (ReplaceToken key value) bytes = with_value key.now value.now bytes
edited (KeepLines text) bytes = kept_lines text.now bytes
edited Sum bytes = sum_line bytes

-- ---- Changes

-- the changes of the files that kinds read; none if the files are not incremental
abbrev pub source_changes : List Changes → List Change
source_changes lists = unwrap_or (find byte_order source lists) []

abbrev pub change_line : Change → List ℕ
change_line (Added path) = codes "ADDED " ++ path
change_line (Modified path) = codes "MODIFIED " ++ path
change_line (Removed path) = codes "REMOVED " ++ path

-- ---- Replies to changes

abbrev pub holds : Option (List ℕ) → List ℕ → Bool
holds None bytes = false
holds (Some existing) bytes = bytes_eq existing bytes

-- a file to write, unless the output already has it
abbrev pub where_new : List ℕ → Option (List ℕ) → List ℕ → List Written
where_new path existing bytes = if holds existing bytes then [] else file_of path bytes ∷ []

-- the file to write at a path, given the existing file and the current file of the source
abbrev pub rewritten : (List ℕ → List ℕ) → List ℕ → Option (List ℕ) → Option (List ℕ) → List Written
rewritten edit path existing None = []
rewritten edit path existing (Some bytes) = where_new path existing (edit bytes)

-- the writes for a change
abbrev pub writes_for : (List ℕ → List ℕ) → List OutputFiles → Tree → Change → List Written
writes_for edit outputs files (Added path) =
    rewritten edit path (exists_at outputs target path) (file_at files path)
writes_for edit outputs files (Modified path) =
    rewritten edit path (exists_at outputs target path) (file_at files path)
writes_for edit outputs files (Removed path) = []

-- the removals for a change
abbrev pub removes_for : Change → List OutputPath
removes_for (Added path) = []
removes_for (Modified path) = []
removes_for (Removed path) = record { output = target; path = path } ∷ []

-- The reply of a kind that works file by file: all files, or those that changed and that the output does not
-- have already. It prints a line for each change.
pub record IsByFile (edit : List ℕ → List ℕ) (request : Request) (reply : Reply) : Type 0 where
  pub keeps : request.changes.incremental ≡ false → reply.removes ≡ []
  pub in_full : request.changes.incremental ≡ false
      → reply.writes ≡ by_file edit (tree_at request.files source)
  pub removes : request.changes.incremental ≡ true
      → reply.removes ≡ flat_map removes_for (source_changes request.changes.lists)
  pub writes : request.changes.incremental ≡ true
      → reply.writes ≡ flat_map (writes_for edit request.outputs (tree_at request.files source))
      (source_changes request.changes.lists)
  pub lines : reply.lines ≡ map change_line (source_changes request.changes.lists)
