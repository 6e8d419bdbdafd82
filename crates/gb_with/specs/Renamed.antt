-- The files of kinds that make a file from each file, at a path of its own.
use Rattle.std.specs.Prelude.{ℕ, List, [], ◌∷◌, ◌++◌, if◌then◌else◌, codes, bytes_eq, Option, None, Some}
use Rattle.std.specs.Prelude.{Result, Ok, Err}
use Rattle.gb_core.specs.declared.value.Value.{Value}
use Rattle.gb_action.specs.Files.{Tree, Trees, tree_at}
use Rattle.gb_action.specs.Shapes.{source}

-- a file before others, or the first failure
abbrev pub onto : Result (List ℕ × List ℕ) (List ℕ) → Result Tree (List ℕ) → Result Tree (List ℕ)
onto (Err text) others = Err text
onto (Ok file) (Err text) = Err text
onto (Ok file) (Ok files) = Ok (file ∷ files)

-- files after those that are made
abbrev pub following : Tree → Result Tree (List ℕ) → Result Tree (List ℕ)
following made (Err text) = Err text
following made (Ok files) = Ok (made ++ files)

-- for each path the file from which one is made there, if there is one
abbrev pub Taken : Type 0
Taken = List ℕ → Option (List ℕ)

-- a path at which a file is already made is refused, with both files
abbrev pub unless_taken : List ℕ → List ℕ → Option (List ℕ) → Result (List ℕ) (List ℕ)
unless_taken path new None = Ok new
unless_taken path new (Some other) = Err (other ++ codes " and " ++ path ++ codes ": both at " ++ new)

-- the path of the file that is made from the file at a path
abbrev pub new_path : Taken → List ℕ → Option (List ℕ) → Result (List ℕ) (List ℕ)
new_path taken path None = Err (path ++ codes ": no path of its own")
new_path taken path (Some new) = unless_taken path new (taken new)

-- a file is made there from this file
abbrev pub taking : Taken → List ℕ → List ℕ → Taken
taking taken new path other = if bytes_eq new other then Some path else taken other

-- a file with these bytes at a path, before those made after it
abbrev pub made_at : List ℕ → Result (List ℕ) (List ℕ) → (List ℕ → Result Tree (List ℕ))
    → Result Tree (List ℕ)
made_at bytes (Err text) others = Err text
made_at bytes (Ok new) others = onto (Ok (new, bytes)) (others new)

-- a file from each of the files, in addition to those that are already made
abbrev pub all_renamed : (List ℕ → Option (List ℕ)) → (List ℕ → List ℕ) → Taken → Tree → Result Tree (List ℕ)
all_renamed renamed edit taken [] = Ok []
all_renamed renamed edit taken (file ∷ files) =
    made_at (edit file.1) (new_path taken file.0 (renamed file.0))
    (λ new. all_renamed renamed edit (taking taken new file.0) files)

-- a file from each file of `src`, at its new path, with the result for its bytes
abbrev pub renamed_tree : (List ℕ → Option (List ℕ)) → (List Value → List ℕ → List ℕ) → List Value → Trees
    → Result Tree (List ℕ)
renamed_tree renamed edit arguments trees =
    all_renamed renamed (edit arguments) (λ path. None) (tree_at trees source)
