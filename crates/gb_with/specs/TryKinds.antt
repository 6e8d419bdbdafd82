-- The files of kinds that make a file from each file, or fail.
use Rattle.std.specs.Prelude.{ℕ, List, [], ◌∷◌, ◌++◌, codes, Result, Ok, Err}
use Rattle.gb_core.specs.declared.value.Value.{Value}
use Rattle.gb_action.specs.Files.{Tree, Trees, tree_at}
use Rattle.gb_action.specs.Shapes.{source}
use Rattle.gb_with.specs.Renamed.{onto}

-- the result for the bytes of a file, or the text with which it fails
abbrev pub Trial : Type 0
Trial = List ℕ → Result (List ℕ) (List ℕ)

-- the file at a path, or the failure with the path before it
abbrev pub at_path : List ℕ → Result (List ℕ) (List ℕ) → Result (List ℕ × List ℕ) (List ℕ)
at_path path (Ok bytes) = Ok (path, bytes)
at_path path (Err text) = Err (path ++ codes ": " ++ text)

-- a file from each file, at the same path, or the failure of the first that fails
abbrev pub all_tried : Trial → Tree → Result Tree (List ℕ)
all_tried tried [] = Ok []
all_tried tried (file ∷ files) = onto (at_path file.0 (tried file.1)) (all_tried tried files)

-- the same for the files of `src`
abbrev pub tried_tree : (List Value → Trial) → List Value → Trees → Result Tree (List ℕ)
tried_tree makes arguments trees = all_tried (makes arguments) (tree_at trees source)
