-- The order of tasks 0, 1, .., which are numbered by their keys: the least task has the least number.
use Rattle.std.specs.Prelude.{ℕ, ◌<◌, ◌≤◌, List, [], ◌∷◌, ◌++◌, map, length, Contains, Vec, slice_index_or}
use Rattle.std.specs.Global.{Global}

-- rows of numbers, without their memory
abbrev pub rows : List (Vec ℕ Global) → List (List ℕ)
rows vecs = map (λ v. v.items) vecs

-- the tasks that a task comes after
abbrev pub row : List (List ℕ) → ℕ → List ℕ
row after task = slice_index_or after task []

-- all tasks that a task comes after are placed
abbrev pub IsReady : List (List ℕ) → List ℕ → ℕ → Type 0
IsReady after existing task = (before : ℕ) → Contains (row after task) before → Contains existing before

-- the least of the ready tasks that are not placed yet
pub record IsNext (after : List (List ℕ)) (existing : List ℕ) (task : ℕ) : Type 0 where
  pub known : task < length after
  pub waits : ¬ Contains existing task
  pub ready : IsReady after existing task
  pub least : (other : ℕ) → other < length after → ¬ Contains existing other → IsReady after existing other
      → task ≤ other

-- each is the next one when those before it are placed
pub data InOrder (after : List (List ℕ)) : List ℕ → Type 0 where
  begins : InOrder after []
  goes_on : {existing : List ℕ} {task : ℕ} → InOrder after existing → IsNext after existing task
      → InOrder after (existing ++ task ∷ [])

-- in order, until no task is ready
pub record IsOrder (after : List (List ℕ)) (order : List ℕ) : Type 0 where
  pub in_order : InOrder after order
  pub whole : (task : ℕ) → task < length after → ¬ Contains order task → ¬ IsReady after order task

-- each row names tasks
abbrev pub AreTasks : List (List ℕ) → Type 0
AreTasks after = (task before : ℕ) → Contains (row after task) before → before < length after
