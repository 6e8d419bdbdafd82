-- Lists of tasks.
use Rattle.std.specs.Prelude.{ℕ, List, [], ◌∷◌}
use Rattle.std.specs.BTreeSet.{insert_key}
use Rattle.gb_core.specs.Lists.{byte_order}

-- inserts these tasks into a list that is ordered by the bytes of the paths, each once
abbrev pub with_tasks : List (List ℕ) → List (List ℕ) → List (List ℕ)
with_tasks tasks [] = tasks
with_tasks tasks (task ∷ more) = with_tasks (insert_key byte_order tasks task) more
