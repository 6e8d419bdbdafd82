-- The files of a file property, by their paths, and why they are not read.
use Rattle.std.specs.Prelude.{ℕ, Bool, not, ◌&&◌, ◌||◌, ◌==◌, ◌+◌, ◌++◌, List, [], ◌∷◌, map, take}
use Rattle.std.specs.Prelude.{if◌then◌else◌, bytes_eq}
use Rattle.std.specs.List.{after_last, filter, flat_map, list_any}
use Rattle.std.specs.Ordering.{is_lt, ordering_then}
use Rattle.std.specs.declared.cmp.Ordering.{Ordering}
use Rattle.gb_core.specs.Place.{is_beneath, is_place, is_under}
use Rattle.gb_core.specs.Lists.{byte_order}
use Rattle.gb_folder.specs.Files.{Place, Files, Contents, is_empty, is_own, places_under}
use Rattle.gb_folder.specs.Limits.{max_files}
use Rattle.gb_tree.specs.Pattern.{prefix_of, path_matches}
use Rattle.gb_tree.specs.Tree.{Entries, contents_at, special_roots, path_from, too_large, too_many}
use Rattle.gb_tree.specs.declared.property.Naming.{Naming}
use Rattle.gb_tree.specs.declared.property.Naming.TheVariants.{Relative, NameOnly}
use Rattle.gb_tree.specs.declared.fault.TreeFault.{TreeFault}
use Rattle.gb_tree.specs.declared.fault.TreeFault.TheVariants as faults

-- ---- The files

abbrev pub last_segment : List ℕ → List ℕ
last_segment place = after_last (λ b. b == 47) place

-- the path of a file from a root; a root that is a file is named by its last segment
abbrev pub relative_to : Place → Place → List ℕ
relative_to root place = if bytes_eq place root then last_segment place else path_from root place

abbrev pub matches_any : List (List ℕ) → List ℕ → Bool
matches_any patterns path = list_any (λ pattern. path_matches pattern path) patterns

-- some include matches the path, or there is none; and no exclude does
abbrev pub lets_in : List (List ℕ) → List (List ℕ) → List ℕ → Bool
lets_in include exclude path =
    (is_empty include || matches_any include path) && not (matches_any exclude path)

-- a file under the root belongs to the property
abbrev pub is_in : List (List ℕ) → List (List ℕ) → Place → Place → Bool
is_in include exclude root place = not (is_own place) && lets_in include exclude (relative_to root place)

-- the path at which it is in the property's tree
abbrev pub path_of : Naming → Place → Place → List ℕ
path_of Relative root place = relative_to root place
path_of NameOnly root place = last_segment place

-- the places that belong to the property, among those under a root, with their paths
abbrev pub entries_in : Naming → List (List ℕ) → List (List ℕ) → Place → List Place → Entries
entries_in naming include exclude root places =
    map (λ place. (path_of naming root place, place)) (filter (is_in include exclude root) places)

-- at or under one of the roots
abbrev pub is_under_any : List Place → Place → Bool
is_under_any roots place = list_any (is_under place) roots

-- each place once
abbrev pub distinct : List Place → List Place
distinct [] = []
distinct (place ∷ places) = place ∷ filter (λ other. not (bytes_eq place other)) (distinct places)

-- what each of the roots gives
abbrev pub found : Naming → List (List ℕ) → List (List ℕ) → Files → List Place → Entries
found naming include exclude files roots =
    flat_map (λ root. entries_in naming include exclude root (places_under files root)) roots

-- ---- Where they are looked for

-- Where everything is that a pattern lets in under the root: at the place of its front or under it. The root
-- itself, where that would be no place, or where the pattern lets in a file that is the root.
abbrev pub start_of : Place → List ℕ → Place
start_of root pattern =
    let start = root ++ 47 ∷ prefix_of pattern in
    if path_matches pattern (last_segment root) || not (is_place start) then root else start

-- those of them that lie under no other, each once
abbrev pub outermost : List Place → List Place
outermost places = filter (λ place. not (list_any (is_beneath place) places)) (distinct places)

-- the places under a root at which the files are listed
abbrev pub starts_of : List (List ℕ) → Place → List Place
starts_of include root = if is_empty include then root ∷ [] else outermost (map (start_of root) include)

-- each of the roots with each of its starts
abbrev pub starts_in : List (List ℕ) → List Place → List (Place × Place)
starts_in include roots = flat_map (λ root. map (λ start. (root, start)) (starts_of include root)) roots

abbrev pub places_of : List (Place × Place) → List Place
places_of starts = map (λ start. start.1) starts

-- what the listings there give
abbrev pub found_from : Naming → List (List ℕ) → List (List ℕ) → Files → List (Place × Place) → Entries
found_from naming include exclude files starts =
    flat_map (λ start. entries_in naming include exclude start.0 (places_under files start.1)) starts

-- of these, up to one entry more than the limit
abbrev pub held : Entries → Entries
held entries = take (max_files + 1) entries

-- ---- Their order

-- by the paths, and by the places where the paths are the same
abbrev pub entry_order : List ℕ × Place → List ℕ × Place → Ordering
entry_order a b = ordering_then (byte_order a.0 b.0) (byte_order a.1 b.1)

abbrev pub inserted : List ℕ × Place → Entries → Entries
inserted entry [] = entry ∷ []
inserted entry (other ∷ others) =
    if is_lt (entry_order other entry) then other ∷ inserted entry others else entry ∷ other ∷ others

abbrev pub in_order : Entries → Entries
in_order [] = []
in_order (entry ∷ entries) = inserted entry (in_order entries)

abbrev pub entries_of : Naming → List Place → List (List ℕ) → List (List ℕ) → Files → Entries
entries_of naming roots include exclude files = in_order (found naming include exclude files (distinct roots))

abbrev pub tree_of : Naming → List Place → List (List ℕ) → List (List ℕ) → Files → Files
tree_of naming roots include exclude files = contents_at files (entries_of naming roots include exclude files)

-- ---- Faults

abbrev pub paths_of : Entries → List (List ℕ)
paths_of entries = map (λ entry. entry.0) entries

-- For each two paths in order that cannot be in one tree (the same path twice, or one a folder of the
-- other): the greater.
abbrev pub doubled : List (List ℕ) → List (List ℕ)
doubled [] = []
doubled (path ∷ paths) = filter (λ other. is_under other path) paths ++ doubled paths

-- The faults in listing the property's files, in this order.
abbrev pub entry_faults : List ℕ → Naming → List Place → List (List ℕ) → List (List ℕ) → Contents
    → List TreeFault
entry_faults name naming roots include exclude contents =
    let entries = entries_of naming roots include exclude contents.files in
    special_roots contents (places_of (starts_in include (distinct roots))) ++ too_many name entries
    ++ map (faults.DuplicateInput name) (doubled (paths_of entries))

-- These, and then those in reading the files.
abbrev pub tree_faults : List ℕ → Naming → List Place → List (List ℕ) → List (List ℕ) → Contents
    → List TreeFault
tree_faults name naming roots include exclude contents =
    entry_faults name naming roots include exclude contents
    ++ too_large contents.files (entries_of naming roots include exclude contents.files)
