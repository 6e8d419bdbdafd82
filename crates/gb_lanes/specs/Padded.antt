-- A message as whole blocks: those of its own bytes, and those of what follows.
use Rattle.std.specs.Prelude.{◌≡◌, ℕ, ◌*◌, ◌-◌, ◌/◌, List, length, take, drop}
use Rattle.sha2.specs.Sha256.{padded_message}

-- the number of blocks of a message with its padding
abbrev pub block_count : List ℕ → ℕ
block_count m = length (padded_message m) / 64

-- t starts with what follows the whole blocks of m: its last bytes and its padding
abbrev pub IsTail : List ℕ → List ℕ → Type 0
IsTail t m = take ((block_count m - length m / 64) * 64) t ≡ drop (length m / 64 * 64) (padded_message m)
