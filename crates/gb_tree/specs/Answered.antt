-- Files as calls on any folder returned them: listed, and read.
use Rattle.std.specs.Prelude.{ℕ, ◌≡◌, ◌⊎◌, true, false, nat_lt, length, List, []}
use Rattle.std.specs.List.{AllByRecursion, AllZip, flat_map, zip}
use Rattle.gb_folder.specs.Answers.{WereListed, WereRead}
use Rattle.gb_folder.specs.Files.{Bytes, Files, Place, is_own}
use Rattle.gb_folder.specs.Limits.{max_files}
use Rattle.gb_tree.specs.Property.{distinct, doubled, entries_in, in_order, paths_of, starts_in}
use Rattle.gb_tree.specs.Reading.{KeepsOnly}
use Rattle.gb_tree.specs.Tree.{Entries, IsTreeFaultOfMachine, entries_from}
use Rattle.gb_tree.specs.declared.fault.TreeFault.{TreeFault}
use Rattle.gb_tree.specs.declared.kept.ScannedFile.{ScannedFile}
use Rattle.gb_tree.specs.declared.property.Naming.{Naming}
use Rattle.sha2.specs.Sha256.{sha256}
use Rattle.gb_folder.specs.Calls.{Device}

-- a fault of the machine between two states of the folder
abbrev pub IsTreeFaultBetween : {F : Type 0} → Device F → F → F → TreeFault → Type 0
IsTreeFaultBetween device old new = IsTreeFaultOfMachine (device.failures old) (device.failures new)

-- what belongs to a property, among the places that calls returned as all at or under each start
abbrev pub listed_in : Naming → List (List ℕ) → List (List ℕ) → List ((Place × Place) × List Place) → Entries
listed_in naming include exclude listings =
    flat_map (λ listing. entries_in naming include exclude listing.0.0 listing.1) listings

-- a call returned these places as all at or under a start
abbrev pub IsStartListed : {F : Type 0} → Device F → F → F
    → Place × Place → List Place → Type 0
IsStartListed device old new start places =
    WereListed device old new start.1 places

-- The entries of a property: what belongs to it, among the places that calls returned as all at or under
-- each of its starts. They are no more than are allowed, and all of their paths can be in one tree.
pub record AreEntriesListed {F : Type 0} (device : Device F) (naming : Naming) (roots : List Place)
    (include exclude : List (List ℕ)) (old new : F) (entries : Entries) : Type 0 where
  pub listings : List (List Place)
  pub listed : AllZip (IsStartListed device old new) (starts_in include (distinct roots))
      listings
  pub are : entries
      ≡ in_order (listed_in naming include exclude (zip (starts_in include (distinct roots)) listings))
  pub few : nat_lt max_files (length entries) ≡ false
  pub single : doubled (paths_of entries) ≡ []

-- those of an output: what calls returned as all at or under its place; in the tool's own folder there are
-- none
abbrev pub AreOutputEntriesListed : {F : Type 0} → Device F → F → F
    → Place → Entries → Type 0
AreOutputEntriesListed device old new root entries =
    ((is_own root ≡ true) × (entries ≡ []))
    ⊎ ((places : List Place) × WereListed device old new root places
    × (entries ≡ entries_from root places))

-- a call returned the bytes of the file: the digest is theirs, and no others are kept
abbrev pub WasObserved : {F : Type 0} → Device F → F → F
    → ScannedFile
    → Type 0
WasObserved device old new observed =
    (bytes : Bytes) × WereRead device old new observed.place bytes
    × (observed.digest ≡ sha256 bytes) × KeepsOnly bytes observed.kept

-- the same holds for each file
abbrev pub WereObserved : {F : Type 0} → Device F → F → F
    → List ScannedFile
    → Type 0
WereObserved device old new files =
    AllByRecursion (WasObserved device old new) files

-- the file of an entry, with bytes that calls returned
abbrev pub IsFileRead : {F : Type 0} → Device F → F → F
    → List ℕ × Place → List ℕ × Bytes → Type 0
IsFileRead device old new entry file =
    (file.0 ≡ entry.0) × WereRead device old new entry.1 file.1

-- the tree of these entries, each with bytes that calls returned
abbrev pub IsTreeRead : {F : Type 0} → Device F → F → F → Entries
    → Files → Type 0
IsTreeRead device old new entries files =
    AllZip (IsFileRead device old new) entries files
