-- The outputs that overlap a place, by number.
use Rattle.std.specs.Prelude.{ℕ, ◌≡◌, ◌≢◌, ◌<◌, ◌⊎◌, ◌↔◌, true, List, length, get_or, Contains, MatchOption}
use Rattle.gb_core.specs.Place.{overlaps}
use Rattle.gb_folder.specs.Files.{Place}
use Rattle.gb_graph.specs.declared.last_overlap.Last.{Last}
use Rattle.gb_graph.specs.declared.near.Near.{Near}
use Rattle.gb_graph.specs.declared.places.TaskPlace.{TaskPlace}
use Rattle.gb_graph.specs.Places.{place_at}

abbrev pub by_number : TaskPlace → Near
by_number output = record { task = output.task; number = output.number }

-- these are the numbers of an output at one of the indices
pub record IsAmong (outputs : List TaskPlace) (indices : List ℕ) (near : Near) : Type 0 where
  pub index : ℕ
  pub index_in : Contains indices index
  pub output : TaskPlace
  pub low : index < length outputs
  pub is_output : output ≡ get_or outputs index output
  pub is_near : by_number output ≡ near

-- these are the numbers of an output that overlaps the place
pub record IsNear (outputs : List TaskPlace) (place : Place) (near : Near) : Type 0 where
  pub output : TaskPlace
  pub output_in : Contains outputs output
  pub overlapped : overlaps place output.place ≡ true
  pub is_near : by_number output ≡ near

abbrev pub AreSameNumbers : List Near → List Near → Type 0
AreSameNumbers row other = (near : Near) → Contains other near ↔ Contains row near

-- the row has two outputs of the task
pub record HasTwo (row : List Near) (task : ℕ) : Type 0 where
  pub one : Near
  pub other : Near
  pub one_in : Contains row one
  pub other_in : Contains row other
  pub one_task : one.task ≡ task
  pub other_task : other.task ≡ task
  pub two : one.number ≢ other.number

-- each of the row is also in the thinned one, or two outputs of its task are
pub record AreThinned (row thinned : List Near) : Type 0 where
  pub within : (near : Near) → Contains thinned near → Contains row near
  pub exists : (near : Near) → Contains row near → Contains thinned near ⊎ HasTwo thinned near.task

-- each is an output that overlaps the place, and each such output is there, or two others of its task are
pub record AreNear (outputs : List TaskPlace) (place : Place) (row : List Near) : Type 0 where
  pub within : (near : Near) → Contains row near → IsNear outputs place near
  pub exists : (near : Near) → IsNear outputs place near → Contains row near ⊎ HasTwo row near.task

-- these are the outputs that overlap the last place, if there was one
abbrev pub IsLast : List TaskPlace → List TaskPlace → Last → Type 0
IsLast outputs places last = MatchOption last.place (Unit {0}) (λ index.
    (index < length places) × AreNear outputs (place_at places index) last.near.items)
