-- The tasks that a task comes after by a chain, as rows of bits.
use Rattle.std.specs.Prelude.{ℕ, ◌/◌, ◌%◌, List, Contains, slice_index}
use Rattle.std.specs.Int.{bit_at}
use Rattle.gb_graph.specs.Order.{row}

-- the first task comes after the second by a chain of `after`
pub data IsAfter (after : List (List ℕ)) (task : ℕ) : ℕ → Type 0 where
  start : {before : ℕ} → Contains (row after task) before → IsAfter after task before
  step : {between : ℕ} {before : ℕ} → IsAfter after task between → Contains (row after between) before
      → IsAfter after task before

-- bit i of a row of words, 64 bits to a word
abbrev pub bit_in : List ℕ → ℕ → ℕ
bit_in words i = bit_at (slice_index words (i / 64)) (i % 64)
