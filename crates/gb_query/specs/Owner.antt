-- The task whose record belongs at a place.
use Rattle.std.specs.Prelude.{ℕ, ◌≡◌, ◌≢◌, ◌==◌, List, Option, Some, None, IsTrue, if◌then◌else◌, map}
use Rattle.gb_core.specs.Path.{is_task_path}
use Rattle.gb_folder.specs.Files.{Place}
use Rattle.gb_history.specs.Places.{record_place}
use Rattle.gb_plan.specs.Task.{Path}

-- the task whose record belongs there; or no task's record belongs there
abbrev pub IsOwner : Place → Option Path → Type 0
IsOwner place (Some path) = IsTrue (is_task_path path) × (record_place path ≡ place)
IsOwner place None = (path : Path) → IsTrue (is_task_path path) → record_place path ≢ place

-- each slash replaced by a colon
abbrev pub coloned : List ℕ → List ℕ
coloned text = map (λ byte. if byte == 47 then 58 else byte) text
