-- Small files that were read and wait to be digested, and the result for each.
use Rattle.std.specs.Prelude.{ℕ, List, [], ◌∷◌, Option, Some, None, if◌then◌else◌}
use Rattle.gb_folder.specs.Files.{Bytes}
use Rattle.gb_tree.specs.declared.kept.ScannedFile.{ScannedFile}
use Rattle.gb_tree.specs.declared.scanning.Content.{Content}
use Rattle.gb_tree.specs.declared.scanning.Content.TheVariants.{Undigested, Digested}
use Rattle.gb_tree.specs.declared.waiting.Found.{Found}
use Rattle.gb_tree.specs.declared.waiting.Found.TheVariants.{Small, Observed}
use Rattle.gb_tree.specs.declared.waiting.SmallFile.{SmallFile}
use Rattle.gb_tree.specs.declared.waiting.Waiting.{Waiting}
use Rattle.gb_tree.specs.declared.waiting.Waiting.TheVariants.{Nothing, One, Two, Three}
use Rattle.sha2.specs.Sha256.{sha256}

-- the digest of what was read
abbrev pub digest_in : Content → List ℕ
digest_in (Undigested bytes is_kept) = sha256 bytes
digest_in (Digested digest kept) = digest

-- the bytes of it that are kept
abbrev pub kept_in : Content → Option Bytes
kept_in (Undigested bytes is_kept) = if is_kept then Some bytes else None
kept_in (Digested digest kept) = kept

-- a small file, once it is digested
abbrev pub file_of : SmallFile → ScannedFile
file_of small = record {
  path = small.path;
  place = small.place;
  digest = sha256 small.bytes;
  kept = if small.is_kept then Some small.bytes else None;
}

-- any file that was read
abbrev pub file_in : Found → ScannedFile
file_in (Small small) = file_of small
file_in (Observed observed) = observed

-- those that wait, in their order
abbrev pub waiting_files : Waiting → List ScannedFile
waiting_files Nothing = []
waiting_files (One first) = file_of first ∷ []
waiting_files (Two first second) = file_of first ∷ file_of second ∷ []
waiting_files (Three first second third) = file_of first ∷ file_of second ∷ file_of third ∷ []
