-- Tasks of a plan by number: by word and path, so that the one that precedes has the lesser number.
use Rattle.std.specs.Prelude.{ℕ, ◌≡◌, ◌<◌, ◌+◌, ◌↔◌, Bool, true, ◌||◌, List, [], ◌∷◌, ◌++◌, map, length}
use Rattle.std.specs.Prelude.{Contains, IsTrue, Option, Some, bytes_eq, slice_index_or}
use Rattle.std.specs.List.{filter_map}
use Rattle.std.specs.Map.{lookup}
use Rattle.std.specs.Ordering.{nat_cmp, ordering_then}
use Rattle.std.specs.declared.cmp.Ordering.{Ordering}
use Rattle.gb_core.specs.Lists.{byte_order}
use Rattle.gb_plan.specs.declared.plan.Planned.{Planned}
use Rattle.gb_plan.specs.Task.{Path, has_path}
use Rattle.gb_plan.specs.Graph.{order, precedes, no_repeats, is_in_order}
use Rattle.gb_graph.specs.Order.{row, IsOrder}

-- each occurs once, and precedes those after it
pub record AreRanked (tasks : List Planned) : Type 0 where
  pub once : no_repeats (order tasks) ≡ true
  pub ranked : (i j : ℕ) (d : Planned) → i < j → j < length tasks
      → precedes (slice_index_or tasks i d) (slice_index_or tasks j d) ≡ true

-- of two tasks of a plan the first comes after the second: it needs it, finalizes it, or must run after it
abbrev pub comes_after : Planned → Planned → Bool
comes_after planned before =
    has_path planned.task.needs before.task.path
    || has_path before.task.finalizers planned.task.path
    || has_path planned.task.must_run_after before.task.path

-- the rows have the numbers of the tasks that each comes after
pub record GiveAfter (tasks : List Planned) (after : List (List ℕ)) : Type 0 where
  pub each : length after ≡ length tasks
  pub known : (task before : ℕ) → Contains (row after task) before
      → (task < length tasks) × (before < length tasks)
  pub reported : (task before : ℕ) (d : Planned) → Contains (row after task) before
      ↔ ((task < length tasks) × (before < length tasks)
      × IsTrue (comes_after (slice_index_or tasks task d) (slice_index_or tasks before d)))

-- no number occurs twice
abbrev pub AreDistinct : List ℕ → Type 0
AreDistinct [] = Unit {0}
AreDistinct (number ∷ numbers) = (¬ Contains numbers number) × AreDistinct numbers

-- the numbers below `count` that are not among these, each once
pub record AreOthers (count : ℕ) (numbers others : List ℕ) : Type 0 where
  pub separate : AreDistinct others
  pub within : (number : ℕ) → Contains others number → (number < count) × (¬ Contains numbers number)
  pub back : (number : ℕ) → number < count → ¬ Contains numbers number → Contains others number

-- the same tasks
pub record AreSame (tasks plan : List Planned) : Type 0 where
  pub within : (planned : Planned) → Contains plan planned → Contains tasks planned
  pub back : (planned : Planned) → Contains tasks planned → Contains plan planned

-- the same tasks, each once, and in order until no task is ready
pub record IsArranged (tasks plan : List Planned) : Type 0 where
  pub same : AreSame tasks plan
  pub once : no_repeats (order plan) ≡ true
  pub in_order : is_in_order plan [] plan ≡ true

-- by word, then by path
abbrev pub rank_order : Planned → Planned → Ordering
rank_order a b = ordering_then (nat_cmp a.word b.word) (byte_order a.task.path b.task.path)

-- ---- How the rows are made

-- numbers by paths
abbrev pub Numbers : Type 0
Numbers = List (Path × ℕ)

-- the number of a path, if it has one
abbrev pub number_at : Numbers → Path → Option ℕ
number_at numbers path = lookup (bytes_eq path) numbers

-- each of these paths has its number, and no other path has one
abbrev pub GiveNumbers : List Path → Numbers → Type 0
GiveNumbers paths numbers = (path : Path) (number : ℕ) → (number_at numbers path ≡ Some number)
    ↔ ((number < length paths) × (slice_index_or paths number [] ≡ path))

-- the numbers of the paths that have one
abbrev pub numbers_in : Numbers → List Path → List ℕ
numbers_in numbers paths = filter_map (number_at numbers) paths

-- pairs of a task and a task that it comes after, by number, where the task's own declaration gives them
abbrev pub edges_at : Numbers → ℕ → Planned → List (ℕ × ℕ)
edges_at numbers task planned =
    map (λ before. (task, before)) (numbers_in numbers planned.task.needs)
    ++ map (λ before. (task, before)) (numbers_in numbers planned.task.must_run_after)
    ++ map (λ later. (later, task)) (numbers_in numbers planned.task.finalizers)

-- the same for all these tasks, where the first has this number
abbrev pub edges_from : Numbers → ℕ → List Planned → List (ℕ × ℕ)
edges_from numbers first [] = []
edges_from numbers first (planned ∷ tasks) =
    edges_at numbers first planned ++ edges_from numbers (first + 1) tasks

-- the edges pair each task by number with the tasks that it comes after
pub record GiveEdges (tasks : List Planned) (edges : List (ℕ × ℕ)) : Type 0 where
  pub known : (task before : ℕ) → Contains edges (task, before)
      → (task < length tasks) × (before < length tasks)
  pub reported : (task before : ℕ) (d : Planned) → Contains edges (task, before)
      ↔ ((task < length tasks) × (before < length tasks)
      × IsTrue (comes_after (slice_index_or tasks task d) (slice_index_or tasks before d)))

-- a row for each number below `count`: the second numbers of its edges
pub record HoldEdges (count : ℕ) (edges : List (ℕ × ℕ)) (after : List (List ℕ)) : Type 0 where
  pub each : length after ≡ count
  pub reported : (task before : ℕ) → Contains (row after task) before ↔ Contains edges (task, before)

-- what each task comes after, the numbers of the tasks that are in order, and the others
pub record AreRanks (tasks : List Planned) (after : List (List ℕ)) (order others : List ℕ) : Type 0 where
  pub reported : GiveAfter tasks after
  pub is_order : IsOrder after order
  pub are_others : AreOthers (length tasks) order others
