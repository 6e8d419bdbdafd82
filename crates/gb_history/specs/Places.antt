-- The places of records.
use Rattle.std.specs.Prelude.{◌≡◌, ◌==◌, ◌++◌, ℕ, List, map, codes, if◌then◌else◌, IsTrue}
use Rattle.gb_core.specs.Path.{is_task_path}
use Rattle.gb_core.specs.Place.{is_beneath}

-- each colon as a slash
abbrev pub slashed : List ℕ → List ℕ
slashed path = map (λ byte. if byte == 58 then 47 else byte) path

-- `.gb/tasks/lib/gen.record` of `:lib:gen`
abbrev pub record_place : List ℕ → List ℕ
record_place path = codes ".gb/tasks" ++ slashed path ++ codes ".record"

abbrev pub PlacesAreDistinct : Type 0
PlacesAreDistinct =
    (one other : List ℕ) → IsTrue (is_task_path one) → IsTrue (is_task_path other)
    → record_place one ≡ record_place other → one ≡ other

abbrev pub NoPlaceBeneath : Type 0
NoPlaceBeneath =
    (one other : List ℕ) → IsTrue (is_task_path one) → IsTrue (is_task_path other)
    → ¬ IsTrue (is_beneath (record_place one) (record_place other))
