-- Kinds that make all their files again: their reply to changes depends on the files that are there.
use Rattle.std.specs.Prelude.{◌≡◌, ℕ, true, false, List, [], ◌∷◌, if◌then◌else◌, is_some, IsTrue}
use Rattle.std.specs.List.{flat_map}
use Rattle.std.specs.FinMap.Entries.{is_sorted}
use Rattle.gb_core.specs.Lists.{byte_order}
use Rattle.gb_action.specs.Files.{Tree, file_at}
use Rattle.gb_action.specs.Outputs.{written_at}
use Rattle.gb_action.specs.Shapes.{target}
use Rattle.gb_action.specs.declared.output_files.OutputFiles.{OutputFiles}
use Rattle.gb_action.specs.declared.reply.OutputPath.{OutputPath}
use Rattle.gb_action.specs.declared.reply.Reply.{Reply}
use Rattle.gb_action.specs.declared.request.Request.{Request}
use Rattle.gb_kinds.specs.Remade.{as_made, renewed, existing}

-- the reply that writes these files and prints these lines, and removes nothing
abbrev pub all_of : Tree → List (List ℕ) → Reply
all_of files lines = record { removes = []; writes = as_made files; lines = lines }

-- the path, unless a file is made there
abbrev pub unless_made : Tree → List ℕ → List OutputPath
unless_made made path =
    if is_some (file_at made path) then [] else record { output = target; path = path } ∷ []

-- the existing files that are no longer made
abbrev pub made_no_more : Tree → Tree → List OutputPath
made_no_more existed made = flat_map (λ file. unless_made made file.0) existed

-- The reply that leaves exactly these files: it removes the existing ones that are no longer made, and writes
-- those that differ from the existing ones. Each path is considered once, by the file made there in the end,
-- in the order of paths.
pub record IsDifference (files : Tree) (lines : List (List ℕ)) (outputs : List OutputFiles)
    (reply : Reply) : Type 0 where
  pub made : Tree
  pub in_order : IsTrue (is_sorted byte_order made)
  pub is_made : (path : List ℕ) → file_at made path ≡ written_at (as_made files) target path
  pub removes : reply.removes ≡ made_no_more (existing outputs) made
  pub writes : reply.writes ≡ renewed outputs made
  pub prints : reply.lines ≡ lines

-- The reply of a kind that makes these files and prints these lines: all of them, or the difference to the
-- existing files.
pub record IsRecheck (files : Tree) (lines : List (List ℕ)) (request : Request) (reply : Reply) : Type 0 where
  pub in_full : request.changes.incremental ≡ false → reply ≡ all_of files lines
  pub by_changes : request.changes.incremental ≡ true → IsDifference files lines request.outputs reply
