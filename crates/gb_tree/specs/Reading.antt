-- The files of a property or an output as they were read, and the bytes of them that are kept.
use Rattle.std.specs.Prelude.{◌≡◌, ◌⊎◌, ℕ, Bool, true, false, List, map, Option, None, Some, IsTrue, IsSome}
use Rattle.std.specs.Prelude.{bytes_eq}
use Rattle.std.specs.FinMap.Entries.{is_sorted}
use Rattle.std.specs.List.{AllByRecursion, list_all}
use Rattle.gb_action.specs.Files.{Tree}
use Rattle.gb_core.specs.Lists.{byte_order}
use Rattle.gb_folder.specs.Files.{Bytes, Files, file_at}
use Rattle.gb_tree.specs.Tree.{Entries, bytes_at, is_large}
use Rattle.gb_tree.specs.declared.kept.ScannedFile.{ScannedFile}
use Rattle.sha2.specs.Sha256.{sha256}

-- the digest of each file, by its path
abbrev pub digests_observed : List ScannedFile → Tree
digests_observed files = map (λ file. (file.path, file.digest)) files

-- the place of each file, by its path
abbrev pub entries_observed : List ScannedFile → Entries
entries_observed files = map (λ file. (file.path, file.place)) files

-- where bytes are kept, the digest is theirs
abbrev pub is_digest_of : Option Bytes → List ℕ → Bool
is_digest_of None digest = true
is_digest_of (Some bytes) digest = bytes_eq digest (sha256 bytes)

-- the paths are strictly ascending, and each digest is that of the bytes that are kept
pub record IsReading (files : List ScannedFile) : Type 0 where
  pub in_order : IsTrue (is_sorted byte_order (digests_observed files))
  pub digested : IsTrue (list_all (λ file. is_digest_of file.kept file.digest) files)

-- no bytes are kept, or these
abbrev pub KeepsOnly : Bytes → Option Bytes → Type 0
KeepsOnly bytes kept = (kept ≡ None) ⊎ (kept ≡ Some bytes)

-- a file is at the place and is not too large; the digest is that of its bytes, and no others are kept
pub record IsObservedIn (files : Files) (observed : ScannedFile) : Type 0 where
  pub exists : IsSome (file_at files observed.place)
  pub small : is_large files observed.place ≡ false
  pub digested : observed.digest ≡ sha256 (bytes_at files observed.place)
  pub whole : KeepsOnly (bytes_at files observed.place) observed.kept

-- the files at these entries, as they are
pub record AreObserved (files : Files) (entries : Entries) (observed : List ScannedFile) : Type 0 where
  pub placed : entries_observed observed ≡ entries
  pub each : AllByRecursion (IsObservedIn files) observed
