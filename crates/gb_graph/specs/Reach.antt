-- What is reached along rows of numbers, and from which start first.
use Rattle.std.specs.Prelude.{ℕ, ◌≡◌, ◌<◌, ◌+◌, ◌⊎◌, List, length, Contains, Bool, true, false, slice_index}
use Rattle.gb_graph.specs.Order.{row}
use Rattle.gb_graph.specs.Settled.{is_marked, missing}

-- what is reached from these starts
pub data Reaches (table : List (List ℕ)) (starts : List ℕ) : ℕ → Type 0 where
  start : {task : ℕ} → Contains starts task → Reaches table starts task
  step : {from : ℕ} {task : ℕ} → Reaches table starts from → Contains (row table from) task
      → Reaches table starts task

-- the first start from which the task is reached has this index
pub record IsFirstStart (table starts : List (List ℕ)) (task index : ℕ) : Type 0 where
  pub within : index < length starts
  pub reaches : Reaches table (row starts index) task
  pub none_before : (i : ℕ) → i < index → ¬ Reaches table (row starts i) task

-- ---- What the helpers do

-- what is marked leads to what is marked
abbrev pub IsClosed : List (List ℕ) → List Bool → Type 0
IsClosed table exists =
    (from task : ℕ) → is_marked exists from ≡ true → Contains (row table from) task
    → is_marked exists task ≡ true

-- These tasks are marked too; those that were not marked before get the word, and are added to the fresh
-- ones.
pub record IsMarked (exists exists' : List Bool) (words words' fresh fresh' tasks : List ℕ)
    (word : ℕ) : Type 0 where
  pub stays : (k : ℕ) → is_marked exists k ≡ true → is_marked exists' k ≡ true
  pub marks : (k : ℕ) → Contains tasks k → is_marked exists' k ≡ true
  pub only : (k : ℕ) → is_marked exists' k ≡ true → (is_marked exists k ≡ true) ⊎ Contains tasks k
  pub same : (k : ℕ) → is_marked exists k ≡ true → slice_index words' k ≡ slice_index words k
  pub new : (k : ℕ) → is_marked exists k ≡ false → is_marked exists' k ≡ true
      → (slice_index words' k ≡ word) × Contains fresh' k
  pub kept : (k : ℕ) → Contains fresh k → Contains fresh' k
  pub made : (k : ℕ) → Contains fresh' k → Contains fresh k ⊎ Contains tasks k
  pub count : missing exists' + length fresh' ≡ missing exists + length fresh

-- everything reached from the starts is marked too, with the word where it was not marked before
pub record IsSpread (table : List (List ℕ)) (starts : List ℕ) (word : ℕ) (exists exists' : List Bool)
    (words words' : List ℕ) : Type 0 where
  pub stays : (k : ℕ) → is_marked exists k ≡ true → is_marked exists' k ≡ true
  pub whole : (k : ℕ) → Reaches table starts k → is_marked exists' k ≡ true
  pub only : (k : ℕ) → is_marked exists' k ≡ true
      → (is_marked exists k ≡ true) ⊎ Reaches table starts k
  pub same : (k : ℕ) → is_marked exists k ≡ true → slice_index words' k ≡ slice_index words k
  pub new : (k : ℕ) → is_marked exists k ≡ false → is_marked exists' k ≡ true
      → slice_index words' k ≡ word
  pub closed : IsClosed table exists'

-- the state so far: what leads to tasks that are not marked is among the fresh ones
pub record Spreads (table : List (List ℕ)) (starts : List ℕ) (word : ℕ) (exists exists' : List Bool)
    (words words' fresh : List ℕ) : Type 0 where
  pub stays : (k : ℕ) → is_marked exists k ≡ true → is_marked exists' k ≡ true
  pub begun : (k : ℕ) → Contains starts k → is_marked exists' k ≡ true
  pub only : (k : ℕ) → is_marked exists' k ≡ true
      → (is_marked exists k ≡ true) ⊎ Reaches table starts k
  pub same : (k : ℕ) → is_marked exists k ≡ true → slice_index words' k ≡ slice_index words k
  pub new : (k : ℕ) → is_marked exists k ≡ false → is_marked exists' k ≡ true
      → slice_index words' k ≡ word
  pub goes : (k task : ℕ) → is_marked exists' k ≡ true → Contains (row table k) task
      → (is_marked exists' task ≡ true) ⊎ Contains fresh k
  pub reached : (k : ℕ) → Contains fresh k → Reaches table starts k
