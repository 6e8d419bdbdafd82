-- Kinds that compute all the files that they make: their reply to changes depends on the existing files.
use Rattle.std.specs.Prelude.{◌≡◌, ℕ, not, ◌&&◌, true, false, List, [], map, unwrap_or, is_some}
use Rattle.std.specs.List.{filter, flat_map}
use Rattle.gb_action.specs.Files.{Tree, file_at}
use Rattle.gb_action.specs.Outputs.{files_of, exists_at}
use Rattle.gb_action.specs.Shapes.{target}
use Rattle.gb_action.specs.declared.output_files.OutputFiles.{OutputFiles}
use Rattle.gb_action.specs.declared.reply.OutputPath.{OutputPath}
use Rattle.gb_action.specs.declared.reply.Reply.{Reply}
use Rattle.gb_action.specs.declared.reply.Written.{Written}
use Rattle.gb_action.specs.declared.request.Request.{Request}
use Rattle.gb_kinds.specs.ByFile.{by_file, change_line, source_changes, where_new}

-- the files as they are
abbrev pub as_made : Tree → List Written
as_made made = by_file (λ bytes. bytes) made

-- the existing files of the output that kinds write
abbrev pub existing : List OutputFiles → Tree
existing outputs = unwrap_or (files_of outputs target) []

-- the paths among these at which a file exists and none is made
abbrev pub outdated : List OutputFiles → Tree → List (List ℕ) → List OutputPath
outdated outputs made paths =
    map (λ path. record { output = target; path = path })
    (filter (λ path. is_some (exists_at outputs target path) && not (is_some (file_at made path))) paths)

-- the files that the output does not have already
abbrev pub renewed : List OutputFiles → Tree → List Written
renewed outputs made = flat_map (λ file. where_new file.0 (exists_at outputs target file.0) file.1) made

-- The reply of a kind that makes these files: all of them, or, if it examined only some paths, those that
-- the output does not have already, and it removes the existing files at one of the paths that are no longer
-- made. It prints a line for each change.
pub record IsRemade (made : Tree) (looked_at : List (List ℕ)) (request : Request)
    (reply : Reply) : Type 0 where
  pub keeps : request.changes.incremental ≡ false → reply.removes ≡ []
  pub in_full : request.changes.incremental ≡ false → reply.writes ≡ as_made made
  pub removes : request.changes.incremental ≡ true → reply.removes ≡ outdated request.outputs made looked_at
  pub writes : request.changes.incremental ≡ true → reply.writes ≡ renewed request.outputs made
  pub lines : reply.lines ≡ map change_line (source_changes request.changes.lists)
