-- How two trees differ, path by path.
use Rattle.std.specs.Prelude.{◌≡◌, ◌≢◌, ℕ, List, [], ◌∷◌, ◌++◌, if◌then◌else◌, bytes_eq, Option}
use Rattle.std.specs.Prelude.{Some, None, IsSome}
use Rattle.std.specs.List.{flat_map}
use Rattle.std.specs.FinMap.Entries.{put}
use Rattle.gb_core.specs.Lists.{byte_order}
use Rattle.gb_action.specs.Files.{Tree, file_at}
use Rattle.gb_action.specs.declared.change.Change.{Change}
use Rattle.gb_action.specs.declared.change.Change.TheVariants.{Added, Modified, Removed}

-- the changes of one file property, by its name
abbrev pub Changes : Type 0
Changes = List ℕ × List Change

-- the change at a path
abbrev pub change_at : List ℕ → Option (List ℕ) → Option (List ℕ) → List Change
change_at path None None = []
change_at path None (Some new) = Added path ∷ []
change_at path (Some old) None = Removed path ∷ []
change_at path (Some old) (Some new) = if bytes_eq old new then [] else Modified path ∷ []

-- files in the order of their paths, each path once
abbrev pub in_order : Tree → Tree
in_order [] = []
in_order (file ∷ files) = put byte_order file.0 file.1 (in_order files)

-- for each path of either tree, by bytes: added, removed, or modified where the contents differ
abbrev pub changes_between : Tree → Tree → List Change
changes_between old new =
    flat_map (λ file. change_at file.0 (file_at old file.0) (file_at new file.0)) (in_order (old ++ new))

-- the list is what changed from the old tree to the new one
abbrev pub AreChanges : Tree → Tree → List Change → Type 0
AreChanges old new changes = changes ≡ changes_between old new

-- the tree changed in this way
abbrev pub IsChange : Tree → Tree → Change → Type 0
IsChange old new (Added path) = (file_at old path ≡ None) × IsSome (file_at new path)
IsChange old new (Modified path) =
    IsSome (file_at old path) × IsSome (file_at new path) × (file_at old path ≢ file_at new path)
IsChange old new (Removed path) = IsSome (file_at old path) × (file_at new path ≡ None)
