-- Which tasks conflict at which places, and the least of their conflicts.
use Rattle.std.specs.Prelude.{ℕ, ◌≡◌, ◌<◌, ◌↔◌, Bool, true, false, not, ◌&&◌, ◌==◌, List, [], Contains}
use Rattle.std.specs.Prelude.{Option, None, Some, if◌then◌else◌, slice_index_or, length}
use Rattle.std.specs.Ordering.{is_lt}
use Rattle.gb_core.specs.Lists.{byte_order}
use Rattle.gb_core.specs.Place.{overlaps}
use Rattle.gb_plan.specs.declared.plan.Planned.{Planned}
use Rattle.gb_plan.specs.Task.{output_places, roots_of}
use Rattle.gb_plan.specs.Graph.{Plan, IsAfter}
use Rattle.gb_plan.specs.Refusal.{Conflict, is_before, IsLeastConflict, IsOverlap, IsOwnInput, IsUndeclared}
use Rattle.gb_graph.specs.Order.{row, rows}
use Rattle.gb_graph.specs.Chains.{bit_in}
use Rattle.gb_graph.specs.Cycle.{path_at}
use Rattle.gb_graph.specs.declared.least.Found.{Found}
use Rattle.gb_graph.specs.declared.least.FoundConflict.{FoundConflict}
use Rattle.gb_graph.specs.declared.conflicting.Search.{Search}
use Rattle.gb_graph.specs.declared.conflicting.Search.TheVariants.{Overlaps, OwnInputs, Undeclared}
use Rattle.gb_graph.specs.declared.near.Near.{Near}
use Rattle.gb_graph.specs.declared.places.TaskPlace.{TaskPlace}
use Rattle.gb_graph.specs.declared.plan_tables.Tables.{Tables}
use Rattle.gb_graph.specs.Places.{IsRising, IsThinned, place_at, places_from, with_places}
use Rattle.gb_graph.specs.Near.{by_number}

-- the rows have the tasks that each comes after by a chain
abbrev pub GiveChains : List Planned → List (List ℕ) → Type 0
GiveChains tasks chains = (task before : ℕ) (d : Planned) → task < length tasks → before < length tasks
    → (bit_in (row chains task) before ≡ 1)
    ↔ IsAfter tasks (slice_index_or tasks task d).task (path_at tasks before)

-- The two count: an output and another one; a root and an output of its own task; a root and an output of
-- another task that the root's task does not come after.
abbrev pub counts : Search → List (List ℕ) → TaskPlace → Near → Bool
counts Overlaps chains at output = not (at.number == output.number)
counts OwnInputs chains at output = at.task == output.task
counts Undeclared chains at output =
    not (at.task == output.task) && not (bit_in (row chains at.task) output.task == 1)

module _ (search : Search) (chains : List (List ℕ)) where
  -- an output of the task counts, and overlaps the place
  pub record IsConflictTask (outputs : List TaskPlace) (at : TaskPlace) (task : ℕ) : Type 0 where
    pub output : TaskPlace
    pub output_in : Contains outputs output
    pub is_task : output.task ≡ task
    pub counted : counts search chains at (by_number output) ≡ true
    pub overlapped : overlaps at.place output.place ≡ true

  -- the task of one of the places conflicts with the task of an output there
  pub record IsConflictThere (tasks : Plan) (outputs places : List TaskPlace) (conflict : Conflict)
      : Type 0 where
    pub at : TaskPlace
    pub at_in : Contains places at
    pub other : ℕ
    pub met : IsConflictTask outputs at other
    pub is_task : conflict.task ≡ path_at tasks at.task
    pub is_other : conflict.other ≡ path_at tasks other
    pub is_place : conflict.place ≡ at.place

-- a task at a place of its own conflicts with one of these tasks
pub record IsConflictAt (tasks : Plan) (at : TaskPlace) (others : List ℕ) (conflict : Conflict) : Type 0 where
  pub other : ℕ
  pub other_in : Contains others other
  pub is_task : conflict.task ≡ path_at tasks at.task
  pub is_other : conflict.other ≡ path_at tasks other
  pub is_place : conflict.place ≡ at.place

-- the conflict that was found
abbrev pub conflict_of : Found → Conflict
conflict_of found = record { task = found.task; other = found.other; place = found.place }

-- the conflict of these numbers
abbrev pub conflict_by : Plan → List TaskPlace → FoundConflict → Conflict
conflict_by tasks places met = record {
  task = path_at tasks met.task;
  other = path_at tasks met.other;
  place = place_at places met.place;
}

-- the result by number, and as it is reported
abbrev pub found_by : Plan → List TaskPlace → Option FoundConflict → Option Found
found_by tasks places None = None
found_by tasks places (Some met) = Some (record {
  task = path_at tasks met.task;
  other = path_at tasks met.other;
  place = place_at places met.place;
})

-- the numbers are those of tasks and of a place
pub record IsWithin (tasks : Plan) (places : List TaskPlace) (met : FoundConflict) : Type 0 where
  pub task : met.task < length tasks
  pub other : met.other < length tasks
  pub place : met.place < length places

-- one of these tasks such that none of them comes before it by path
pub record IsLeastTask (tasks : Plan) (numbers : List ℕ) (number : ℕ) : Type 0 where
  pub is_in : Contains numbers number
  pub least : (other : ℕ) → Contains numbers other
      → is_lt (byte_order (path_at tasks other) (path_at tasks number)) ≡ false

-- the lesser of two, where there are two
abbrev pub lesser : Option Found → Option Found → Option Found
lesser None other = other
lesser (Some found) None = Some found
lesser (Some found) (Some other) =
    if is_before (conflict_of other) (conflict_of found) then Some other else Some found

-- the least of these conflicts, if there is any
abbrev pub IsLeast : (Conflict → Type 0) → Option Found → Type 0
IsLeast IsConflict None = (conflict : Conflict) → ¬ IsConflict conflict
IsLeast IsConflict (Some found) = IsLeastConflict IsConflict (conflict_of found)

-- the conflicts of a plan that are searched for
abbrev pub IsConflict : Plan → Search → Conflict → Type 0
IsConflict plan Overlaps conflict = IsOverlap plan conflict
IsConflict plan OwnInputs conflict = IsOwnInput plan conflict
IsConflict plan Undeclared conflict = IsUndeclared plan conflict

-- the chains of these tasks, their outputs in order, and their roots, thinned
pub record AreTables (tasks : List Planned) (tables : Tables) : Type 0 where
  pub chains : GiveChains tasks (rows tables.chains.items)
  pub rising : IsRising tables.outputs.items
  pub outputs : IsThinned (with_places [] (places_from output_places 0 tasks)) tables.outputs.items
  pub roots : IsThinned (with_places [] (places_from roots_of 0 tasks)) tables.roots.items

-- the places that are compared with the outputs: outputs too, or else roots
abbrev pub places_for : Tables → Search → List TaskPlace
places_for tables Overlaps = tables.outputs.items
places_for tables OwnInputs = tables.roots.items
places_for tables Undeclared = tables.roots.items
