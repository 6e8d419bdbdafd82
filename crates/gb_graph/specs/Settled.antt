-- What the helpers of `order` do to its tables.
use Rattle.std.specs.Prelude.{ℕ, ◌≡◌, ◌<◌, ◌≤◌, ◌+◌, if◌then◌else◌, ◌⊎◌, List, [], ◌∷◌, ◌++◌, length}
use Rattle.std.specs.Prelude.{Contains, Bool, true, false, slice_index_or, slice_set}
use Rattle.gb_graph.specs.Order.{row}

abbrev pub is_marked : List Bool → ℕ → Bool
is_marked exists task = slice_index_or exists task false

-- A task is added where it belongs: to the ready ones if all tasks that it comes after are placed, otherwise
-- to the waiting list of a task that is not placed.
pub record IsPutReady (after : List (List ℕ)) (exists : List Bool) (waiting waiting' : List (List ℕ))
    (ready ready' : ℕ → Bool) (task : ℕ) : Type 0 where
  pub all_exist : (before : ℕ) → Contains (row after task) before → is_marked exists before ≡ true
  pub same : waiting' ≡ waiting
  pub put : ready' task ≡ true
  pub kept : (other : ℕ) → ready other ≡ true → ready' other ≡ true
  pub only : (other : ℕ) → ready' other ≡ true → (other ≡ task) ⊎ (ready other ≡ true)

pub record IsPutWaiting (after : List (List ℕ)) (exists : List Bool) (waiting waiting' : List (List ℕ))
    (ready ready' : ℕ → Bool) (task : ℕ) : Type 0 where
  pub before : ℕ
  pub comes_after : Contains (row after task) before
  pub missing : is_marked exists before ≡ false
  pub put : waiting' ≡ slice_set waiting before (row waiting before ++ task ∷ [])
  pub same : (other : ℕ) → ready' other ≡ ready other

abbrev pub IsSettled : List (List ℕ) → List Bool → List (List ℕ) → List (List ℕ) → (ℕ → Bool) → (ℕ → Bool) → ℕ
    → Type 0
IsSettled after exists waiting waiting' ready ready' task =
    IsPutReady after exists waiting waiting' ready ready' task
    ⊎ IsPutWaiting after exists waiting waiting' ready ready' task

-- The tables are correct for the order so far. Loose tasks are neither ready nor waiting yet.
pub record Keeps (after : List (List ℕ)) (exists : List Bool) (waiting : List (List ℕ)) (ready : ℕ → Bool)
    (order : List ℕ) (loose : ℕ → Type 0) : Type 0 where
  pub marks : length exists ≡ length after
  pub places : length waiting ≡ length after
  pub marked : (task : ℕ) → Contains order task → is_marked exists task ≡ true
  pub existing : (task : ℕ) → is_marked exists task ≡ true → Contains order task
  pub closed : (task before : ℕ) → is_marked exists task ≡ true → Contains (row after task) before
      → is_marked exists before ≡ true
  pub ready_known : (task : ℕ) → ready task ≡ true → task < length after
  pub ready_waits : (task : ℕ) → ready task ≡ true → is_marked exists task ≡ false
  pub ready_after : (task before : ℕ) → ready task ≡ true → Contains (row after task) before
      → is_marked exists before ≡ true
  pub waits_known : (before task : ℕ) → Contains (row waiting before) task → task < length after
  pub waits_after : (before task : ℕ) → Contains (row waiting before) task → Contains (row after task) before
  pub loose_known : (task : ℕ) → loose task → task < length after
  pub loose_waits : (task : ℕ) → loose task → is_marked exists task ≡ false
  pub somewhere : (task : ℕ) → task < length after → is_marked exists task ≡ false
      → loose task ⊎ (ready task ≡ true)
      ⊎ ((before : ℕ) × Contains (row after task) before × (is_marked exists before ≡ false)
      × Contains (row waiting before) task)

-- u is in the list at i or later
abbrev pub ContainsFrom : ℕ → List ℕ → ℕ → Type 0
ContainsFrom i xs u = (k : ℕ) × (i ≤ k) × (k < length xs) × (slice_index_or xs k u ≡ u)

abbrev pub missing : List Bool → ℕ
missing [] = 0
missing (b ∷ bs) = if b then missing bs else missing bs + 1
