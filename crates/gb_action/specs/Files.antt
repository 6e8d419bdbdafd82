-- Files by path, and trees by the name of a property: lists of entries; the first entry of a key counts.
use Rattle.std.specs.Prelude.{ℕ, List, [], Option, unwrap_or}
use Rattle.std.specs.FinMap.Entries.{find}
use Rattle.gb_core.specs.Lists.{byte_order}

-- files by relative path, strictly in the order of the paths
abbrev pub Tree : Type 0
Tree = List (List ℕ × List ℕ)

-- trees by the names of their properties
abbrev pub Trees : Type 0
Trees = List (List ℕ × Tree)

-- the bytes of the file at a path
abbrev pub file_at : Tree → List ℕ → Option (List ℕ)
file_at tree path = find byte_order path tree

-- the tree of a property, which is empty if there is no such property
abbrev pub tree_at : Trees → List ℕ → Tree
tree_at trees name = unwrap_or (find byte_order name trees) []
