-- The places of a plan's tasks, in rows.
use Rattle.std.specs.Prelude.{ℕ, ◌≡◌, ◌≢◌, ◌≤◌, ◌<◌, ◌+◌, ◌⊎◌, ◌↔◌, Bool, List, [], ◌∷◌, ◌++◌, map, length}
use Rattle.std.specs.Prelude.{Contains, IsTrue, slice_index_or}
use Rattle.std.specs.Ordering.{is_lt, nat_cmp, ordering_then}
use Rattle.std.specs.declared.cmp.Ordering.{Ordering}
use Rattle.gb_core.specs.Lists.{byte_order}
use Rattle.gb_folder.specs.Files.{Place}
use Rattle.gb_plan.specs.declared.plan.Planned.{Planned}
use Rattle.gb_plan.specs.declared.task.TaskDeclaration.{TaskDeclaration}
use Rattle.gb_graph.specs.declared.places.TaskPlace.{TaskPlace}

-- the row, followed by these places, each with the number of its task
abbrev pub with_places : List TaskPlace → List (ℕ × Place) → List TaskPlace
with_places row [] = row
with_places row (at ∷ more) =
    with_places (row ++ record { task = at.0; number = length row; place = at.1 } ∷ []) more

-- what these tasks have, where the first task has this number
abbrev pub places_from : (TaskDeclaration → List Place) → ℕ → List Planned → List (ℕ × Place)
places_from places first [] = []
places_from places first (planned ∷ tasks) =
    map (λ place. (first, place)) (places planned.task) ++ places_from places (first + 1) tasks

-- the place at an index
abbrev pub place_at : List TaskPlace → ℕ → Place
place_at row index = slice_index_or (map (λ at. at.place) row) index []

-- one text before another by bytes
abbrev pub is_before : List ℕ → List ℕ → Bool
is_before a b = is_lt (byte_order a b)

-- by place, and then by task
abbrev pub by_place : TaskPlace → TaskPlace → Ordering
by_place a b = ordering_then (byte_order a.place b.place) (nat_cmp a.task b.task)

-- the places before a text come first, for every text
abbrev pub IsRising : List TaskPlace → Type 0
IsRising row = (text : List ℕ) (i j : ℕ) → i ≤ j → j < length row
    → IsTrue (is_before (place_at row j) text) → IsTrue (is_before (place_at row i) text)

-- the same places
abbrev pub AreSamePlaces : List TaskPlace → List TaskPlace → Type 0
AreSamePlaces row other = (at : TaskPlace) → Contains other at ↔ Contains row at

-- the same place of the same task
abbrev pub IsSame : TaskPlace → TaskPlace → Type 0
IsSame at other = (at.task ≡ other.task) × (at.place ≡ other.place)

-- the row has the same place of the same task under two numbers
pub record OccursTwice (row : List TaskPlace) (at : TaskPlace) : Type 0 where
  pub one : TaskPlace
  pub other : TaskPlace
  pub one_in : Contains row one
  pub other_in : Contains row other
  pub one_same : IsSame one at
  pub other_same : IsSame other at
  pub two : one.number ≢ other.number

-- each of the row is also in the thinned one, or occurs there twice under other numbers
pub record IsThinned (row thinned : List TaskPlace) : Type 0 where
  pub within : (at : TaskPlace) → Contains thinned at → Contains row at
  pub exists : (at : TaskPlace) → Contains row at → Contains thinned at ⊎ OccursTwice thinned at
