-- The words of files, and the files that list for each word the files with it.
use Rattle.std.specs.Prelude.{ℕ, ◌==◌, Bool, ◌&&◌, nat_le, List, [], ◌∷◌, ◌++◌, length, map, if◌then◌else◌}
use Rattle.std.specs.Prelude.{bytes_eq, Option, Some, unwrap_or}
use Rattle.std.specs.Char.{is_ascii_alphabetic, to_ascii_lowercase}
use Rattle.std.specs.BTreeMap.{BTreeMap}
use Rattle.std.specs.Global.{Global}
use Rattle.std.specs.List.{filter, flat_map, list_any, slice_split}
use Rattle.std.specs.declared.vec.Vec.{Vec}
use Rattle.gb_action.specs.Changes.{in_order}
use Rattle.gb_action.specs.Files.{Tree}
use Rattle.gb_kinds.specs.Contents.{line_feed}

-- a letter in lower case, and a space for each other byte
abbrev pub letter_or_space : ℕ → ℕ
letter_or_space byte = if is_ascii_alphabetic byte then to_ascii_lowercase byte else 32

-- a run of letters that counts: one to 64
abbrev pub is_word : List ℕ → Bool
is_word run = nat_le 1 (length run) && nat_le (length run) 64

-- the runs of letters that count, in lower case
abbrev pub words_of : List ℕ → List (List ℕ)
words_of bytes = filter is_word (slice_split (λ byte. byte == 32) (map letter_or_space bytes))

-- the bytes contain the word
abbrev pub holds_word : List ℕ → List ℕ → Bool
holds_word word bytes = list_any (bytes_eq word) (words_of bytes)

-- a path, and a line feed
abbrev pub path_line : List ℕ → List ℕ
path_line path = path ++ line_feed ∷ []

-- the paths of the files that contain the word, each on a line
abbrev pub lines_for : List ℕ → Tree → List ℕ
lines_for word files = flat_map (λ file. path_line file.0) (filter (λ file. holds_word word file.1) files)

-- a file for each word of the files, at the word, which lists the files that contain it
abbrev pub index_of : Tree → Tree
index_of files =
    in_order (map (λ word. (word, lines_for word files)) (flat_map (λ file. words_of file.1) files))

-- ---- As it is computed

abbrev pub Index : Type 0
Index = BTreeMap (List ℕ) (Vec ℕ Global)

abbrev pub index_files : Index → Tree
index_files index = map (λ entry. (entry.0, entry.1.items)) index.entries

-- the lines at a word, with the path appended if the word is in its file
abbrev pub with_path : List ℕ → Bool → Option (List ℕ) → Option (List ℕ)
with_path path is_in lines = if is_in then Some (unwrap_or lines [] ++ path_line path) else lines
