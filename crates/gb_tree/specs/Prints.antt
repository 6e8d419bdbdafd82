-- What is remembered of a tree: the digest of each content.
use Rattle.std.specs.Prelude.{◌≡◌, ℕ, List, map, Some}
use Rattle.gb_action.specs.Files.{Tree, file_at}
use Rattle.sha2.specs.Sha256.{sha256}

-- each path with the digest of its content
abbrev pub digests_of : Tree → Tree
digests_of tree = map (λ file. (file.0, sha256 file.1)) tree

-- No two contents at one path of the two trees share a digest without being equal.
abbrev pub AreCollisionFree : Tree → Tree → Type 0
AreCollisionFree old new =
    (path a b : List ℕ) → file_at old path ≡ Some a → file_at new path ≡ Some b → sha256 a ≡ sha256 b → a ≡ b
