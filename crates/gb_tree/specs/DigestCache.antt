-- The digests of files that were read earlier, by their places.
use Rattle.std.specs.Prelude.{ℕ, ◌≡◌, false, List, map, IsSome}
use Rattle.std.specs.List.{AllByRecursion, Contains, flat_map}
use Rattle.sha2.specs.Sha256.{sha256}
use Rattle.gb_folder.specs.Answers.{WereRead}
use Rattle.gb_folder.specs.Files.{Bytes, Files, Place, file_at}
use Rattle.gb_tree.specs.Tree.{bytes_at, is_large}
use Rattle.gb_tree.specs.declared.kept.ScannedFile.{ScannedFile}
use Rattle.gb_folder.specs.Calls.{Device}

-- the place of a file, and the digest of its bytes
abbrev pub CachedFile : Type 0
CachedFile = Place × List ℕ

-- what is remembered of files that were read
abbrev pub places_read : List ScannedFile → List CachedFile
places_read files = map (λ file. (file.place, file.digest)) files

-- what is remembered of readings, in their order
abbrev pub seen_in : List (List ℕ × List ScannedFile) → List CachedFile
seen_in readings = flat_map (λ reading. places_read reading.1) readings

-- each of these files is one of those
abbrev pub AreAmong : List CachedFile → List CachedFile → Type 0
AreAmong files those = (file : CachedFile) → Contains files file → Contains those file

-- a call returned the bytes of the file, and the digest is theirs
abbrev pub WasCached : {F : Type 0} → Device F → F → F → CachedFile
    → Type 0
WasCached device old new file =
    (bytes : Bytes) × WereRead device old new file.0 bytes × (file.1 ≡ sha256 bytes)

-- the same holds for each file
abbrev pub AreCached : {F : Type 0} → Device F → F → F
    → List CachedFile → Type 0
AreCached device since now seen =
    AllByRecursion (WasCached device since now) seen

-- a file is at the place and is not too large, and the digest is that of its bytes
pub record IsCachedIn (files : Files) (file : CachedFile) : Type 0 where
  pub exists : IsSome (file_at files file.0)
  pub small : is_large files file.0 ≡ false
  pub digested : file.1 ≡ sha256 (bytes_at files file.0)

-- the same holds for each file
abbrev pub AreCachedIn : Files → List CachedFile → Type 0
AreCachedIn files seen = AllByRecursion (IsCachedIn files) seen
