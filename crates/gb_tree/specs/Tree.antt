-- The files at places, those under an output's place, and why they are not read.
use Rattle.std.specs.Prelude.{ℕ, ◌≡◌, ◌⊎◌, ◌+◌, ◌++◌, Bool, List, [], ◌∷◌, map, length, drop, if◌then◌else◌}
use Rattle.std.specs.Prelude.{nat_lt, unwrap_or, bytes_eq, Some, Result, Err}
use Rattle.std.specs.List.{filter, list_any}
use Rattle.gb_core.specs.Lists.{first_of}
use Rattle.gb_folder.specs.Files.{Place, Bytes, Files, Contents, HasRisen, file_at, is_special_under, is_own}
use Rattle.gb_folder.specs.Files.{places_under}
use Rattle.gb_folder.specs.Limits.{max_file, max_files}
use Rattle.gb_tree.specs.declared.fault.TreeFault.{TreeFault}
use Rattle.gb_tree.specs.declared.fault.TreeFault.TheVariants as faults
use Rattle.gb_folder.specs.declared.folder.FolderFault.{FolderFault}
use Rattle.gb_folder.specs.declared.folder.FolderFault.TheVariants as folders

-- the bytes of the file at the place
abbrev pub bytes_at : Files → Place → Bytes
bytes_at files place = unwrap_or (file_at files place) []

-- the path of a place from a root at or above it; the root itself has the empty path
abbrev pub path_from : Place → Place → List ℕ
path_from root place = drop (length root + 1) place

-- places, each with the path of its file in a tree
abbrev pub Entries : Type 0
Entries = List (List ℕ × Place)

-- the tree of the files at these places
abbrev pub contents_at : Files → Entries → Files
contents_at files entries = map (λ entry. (entry.0, bytes_at files entry.1)) entries

-- the places, by their paths from a root at or above them
abbrev pub entries_from : Place → List Place → Entries
entries_from root places = map (λ place. (path_from root place, place)) places

-- The files of an output: those at or under its place, by their paths from it. Files of `.gb` belong to
-- none.
abbrev pub output_entries : Files → Place → Entries
output_entries files root = if is_own root then [] else entries_from root (places_under files root)

abbrev pub files_from : Files → Place → Files
files_from files root = contents_at files (output_entries files root)

-- the place is that of one of the entries
abbrev pub is_among : Entries → Place → Bool
is_among entries place = list_any (λ entry. bytes_eq entry.1 place) entries

abbrev pub is_large : Files → Place → Bool
is_large files place = nat_lt max_file (length (bytes_at files place))

-- places under which something exists that no place can name
abbrev pub special_roots : Contents → List Place → List TreeFault
special_roots contents roots = map faults.BadFileName (filter (is_special_under contents) roots)

abbrev pub too_many : List ℕ → Entries → List TreeFault
too_many name entries = if nat_lt max_files (length entries) then faults.TooManyFiles name ∷ [] else []

-- the files that are too large, by their paths
abbrev pub too_large : Files → Entries → List TreeFault
too_large files entries =
    map (λ entry. faults.TooLarge entry.1) (filter (λ entry. is_large files entry.1) entries)

-- The faults in listing the files under a place, and an output's, and then in reading them, in this order.
abbrev pub listing_faults : List ℕ → Place → Contents → List TreeFault
listing_faults name root contents =
    special_roots contents (root ∷ []) ++ too_many name (entries_from root (places_under contents.files root))

abbrev pub output_listing_faults : List ℕ → Place → Contents → List TreeFault
output_listing_faults name root contents = if is_own root then [] else listing_faults name root contents

abbrev pub output_faults : List ℕ → Place → Contents → List TreeFault
output_faults name root contents =
    output_listing_faults name root contents ++ too_large contents.files (output_entries contents.files root)

-- out of memory, or a failure of the device, and the failure count rose
abbrev pub IsTreeFaultOfMachine : ℕ → ℕ → TreeFault → Type 0
IsTreeFaultOfMachine before after fault =
    (fault ≡ faults.OutOfMemory)
    ⊎ ((place : Place) × (fault ≡ faults.Device place) × HasRisen before after)

-- refused by the machine, or with the first of these faults
abbrev pub IsRefused : ℕ → ℕ → List TreeFault → TreeFault → Type 0
IsRefused before after faults fault = IsTreeFaultOfMachine before after fault ⊎ (first_of faults ≡ Some fault)

-- A fault of the device names such a place, and the count of its failures rose.
abbrev pub Blames : {A : Type 0} → (Place → Type 0) → ℕ → ℕ → Result A TreeFault → Type 0
Blames IsSuch before after result =
    (place : Place) → result ≡ Err (faults.Device place) → IsSuch place × HasRisen before after

-- a folder's fault as a tree's, with the place of the fault
abbrev pub tree_fault_at : Place → FolderFault → TreeFault
tree_fault_at place folders.OutOfMemory = faults.OutOfMemory
tree_fault_at place folders.Device = faults.Device place
tree_fault_at place folders.Missing = faults.Missing place
tree_fault_at place folders.Blocked = faults.Blocked place
tree_fault_at place folders.TooLarge = faults.TooLarge place
tree_fault_at place folders.BadFileName = faults.BadFileName place
