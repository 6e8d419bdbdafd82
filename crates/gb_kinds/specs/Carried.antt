-- The index of words built from the old index and the changes.
use Rattle.std.specs.Prelude.{◌≡◌, ℕ, Bool, true, false, not, ◌&&◌, ◌||◌, List, [], ◌∷◌, map, if◌then◌else◌}
use Rattle.std.specs.Prelude.{bytes_eq, IsTrue, Option, Some, None, unwrap_or}
use Rattle.std.specs.FinMap.Entries.{is_sorted}
use Rattle.std.specs.List.{concat, filter, flat_map, list_all, list_any}
use Rattle.std.specs.List.Sorted.{IsStrictlySortedBy}
use Rattle.bstr.specs.Text.{lines_of}
use Rattle.gb_core.specs.Place.{is_rel_path}
use Rattle.gb_core.specs.Lists.{byte_order}
use Rattle.gb_action.specs.Files.{Tree, file_at, tree_at}
use Rattle.gb_action.specs.Shapes.{source}
use Rattle.gb_action.specs.declared.change.Change.{Change}
use Rattle.gb_action.specs.declared.change.Change.TheVariants.{Added, Modified, Removed}
use Rattle.gb_action.specs.declared.request.Request.{Request}
use Rattle.gb_kinds.specs.ByFile.{source_changes}
use Rattle.gb_kinds.specs.Remade.{existing}
use Rattle.gb_kinds.specs.Words.{holds_word, index_of, path_line}

abbrev pub path_of : Change → List ℕ
path_of (Added path) = path
path_of (Modified path) = path
path_of (Removed path) = path

-- the line is that of a path that changed
abbrev pub is_of_change : List Change → List ℕ → Bool
is_of_change changes line = list_any (λ change. bytes_eq (path_line (path_of change)) line) changes

-- there is a file, and it contains the word
abbrev pub holds_in : Option (List ℕ) → List ℕ → Bool
holds_in None word = false
holds_in (Some bytes) word = holds_word word bytes

-- the lines that the old index has at the word
abbrev pub reported_at : Tree → List ℕ → List (List ℕ)
reported_at index word = lines_of (unwrap_or (file_at index word) [])

-- a file that changed contains the word now, or contained it by the old index
abbrev pub is_looked_at : Tree → List Change → Tree → List ℕ → Bool
is_looked_at old changes files word =
    list_any (λ change. holds_in (file_at files (path_of change)) word) changes
    || list_any (is_of_change changes) (reported_at old word)

-- The line stays, or it is new: the old index has it and its path did not change, or its path changed and the
-- file at the path contains the word now.
abbrev pub is_carried : Tree → List Change → Tree → List ℕ → List ℕ → Bool
is_carried old changes files word line =
    (list_any (bytes_eq line) (reported_at old word) && not (is_of_change changes line))
    || list_any (λ change. bytes_eq (path_line (path_of change)) line
    && holds_in (file_at files (path_of change)) word) changes

-- the lines as a file, if there are any
abbrev pub file_of_lines : List (List ℕ) → Option (List ℕ)
file_of_lines [] = None
file_of_lines (line ∷ lines) = Some (concat (line ∷ lines))

-- the file of the lines that satisfy the test, in order, each once
pub record IsEntry (is_there : List ℕ → Bool) (entry : Option (List ℕ)) : Type 0 where
  pub lines : List (List ℕ)
  pub in_order : IsStrictlySortedBy byte_order lines
  pub exactly : (line : List ℕ) → list_any (bytes_eq line) lines ≡ is_there line
  pub joined : entry ≡ file_of_lines lines

-- The result from the old index, the changes, and the files that changed: for each word that is examined the
-- lines that are carried, and nothing for other words. All paths that were visited are paths.
pub record IsCarried (old : Tree) (changes : List Change) (files : Tree) (looked_at : List ℕ → Bool)
    (index : Tree) : Type 0 where
  pub looked : (word : List ℕ) → looked_at word ≡ is_looked_at old changes files word
  pub ordered : IsTrue (is_sorted byte_order index)
  pub entries : (word : List ℕ) → is_looked_at old changes files word ≡ true
      → IsEntry (is_carried old changes files word) (file_at index word)
  pub others : (word : List ℕ) → is_looked_at old changes files word ≡ false → file_at index word ≡ None
  pub in_order : IsTrue (is_sorted byte_order files)
  pub paths : IsTrue (list_all (λ file. is_rel_path file.0) files)
  pub changed_paths : IsTrue (list_all (λ change. is_rel_path (path_of change)) changes)

-- the index that a request needs: that of all its files, or the result from the changes
pub record IsIndexFor (request : Request) (looked_at : List ℕ → Bool) (index : Tree) : Type 0 where
  pub in_full : request.changes.incremental ≡ false → index ≡ index_of (tree_at request.files source)
  pub carried : request.changes.incremental ≡ true
      → IsCarried (existing request.outputs) (source_changes request.changes.lists)
      (tree_at request.files source) looked_at index

-- ---- As it is computed

-- the line exists and is not gone, or it is new
abbrev pub is_line_of : List ℕ → (List ℕ → Bool) → List ℕ → List ℕ → Bool
is_line_of existed gone new line =
    (list_any (bytes_eq line) (lines_of existed) && not (gone line))
    || list_any (bytes_eq line) (lines_of new)

-- the changed paths as those of files
abbrev pub as_files : List Change → Tree
as_files changes = map (λ change. (path_of change, [])) changes

-- the paths of the files that satisfy the test, each on a line, if there is one
abbrev pub lines_where : (List ℕ × List ℕ → Bool) → Tree → Option (List ℕ)
lines_where chosen files =
    if list_any chosen files then Some (flat_map (λ file. path_line file.0) (filter chosen files)) else None
