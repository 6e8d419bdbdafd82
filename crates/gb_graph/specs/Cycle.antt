-- The cycle of tasks that never get ready, by number.
use Rattle.std.specs.Prelude.{ℕ, ◌≡◌, Bool, true, false, List, [], ◌∷◌, Contains, slice_index_or}
use Rattle.std.specs.Ordering.{is_lt}
use Rattle.gb_core.specs.Lists.{byte_order}
use Rattle.gb_plan.specs.declared.plan.Planned.{Planned}
use Rattle.gb_plan.specs.Task.{Path}
use Rattle.gb_plan.specs.Graph.{order}
use Rattle.gb_graph.specs.Order.{row}
use Rattle.gb_graph.specs.Settled.{is_marked}
use Rattle.gb_graph.specs.Ranked.{AreDistinct}

-- the path of the task of this number
abbrev pub path_at : List Planned → ℕ → Path
path_at tasks number = slice_index_or (order tasks) number []

-- it is one of the marked numbers among these, and none of them comes before it by path
pub record IsLeastNumber (tasks : List Planned) (numbers : List ℕ) (marks : List Bool)
    (number : ℕ) : Type 0 where
  pub is_in : Contains numbers number
  pub marked : is_marked marks number ≡ true
  pub least : (other : ℕ) → Contains numbers other → is_marked marks other ≡ true
      → is_lt (byte_order (path_at tasks other) (path_at tasks number)) ≡ false

-- the second is the least marked number that the first comes after
abbrev pub IsNextNumber : List Planned → List (List ℕ) → List Bool → ℕ → ℕ → Type 0
IsNextNumber tasks after marks number next = IsLeastNumber tasks (row after number) marks next

-- steps lead from one number to another through these: the first, and all between the two
pub data LeadsTo (steps : ℕ → ℕ → Type 0) : ℕ → List ℕ → ℕ → Type 0 where
  is_there : {number : ℕ} → LeadsTo steps number [] number
  goes : {from : ℕ} {next : ℕ} {passed : List ℕ} {to : ℕ} → steps from next
      → LeadsTo steps next passed to → LeadsTo steps from (from ∷ passed) to

-- a trail from the start that returns to one of its own numbers
pub record IsTrail (tasks : List Planned) (after : List (List ℕ)) (marks : List Bool) (start : ℕ)
    (trail : List ℕ) (back : ℕ) : Type 0 where
  pub leads : LeadsTo (IsNextNumber tasks after marks) start trail back
  pub separate : AreDistinct trail
  pub comes_back : Contains trail back
  pub marked : (number : ℕ) → Contains trail number → is_marked marks number ≡ true

-- The cycle that the trail from the least of these leads into, starting with the least number of the
-- cycle.
pub record IsRound (tasks : List Planned) (after : List (List ℕ)) (marks : List Bool)
    (numbers cycle : List ℕ) : Type 0 where
  pub start : ℕ
  pub first : ℕ
  pub way : List ℕ
  pub from_least : IsLeastNumber tasks numbers marks start
  pub comes_to : LeadsTo (IsNextNumber tasks after marks) start way first
  pub goes_round : LeadsTo (IsNextNumber tasks after marks) first cycle first
  pub once : AreDistinct cycle
  pub least_first : IsLeastNumber tasks cycle marks first
