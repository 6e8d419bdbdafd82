-- How marks are found: the first task that may change an output that a task reads, by sorted outputs; and the
-- tasks that do not start, by their paths.
use Rattle.std.specs.Prelude.{ℕ, ◌≡◌, ◌≤◌, ◌⊎◌, true, List, [], ◌∷◌, Option, None, Some, Contains, IsTrue}
use Rattle.std.specs.Prelude.{◌<◌, ⊤, if◌then◌else◌, length, nat_lt, option_and_then, slice_get}
use Rattle.gb_core.specs.Place.{overlaps}
use Rattle.gb_folder.specs.Files.{Place}
use Rattle.gb_graph.specs.declared.places.TaskPlace.{TaskPlace}
use Rattle.gb_plan.specs.declared.task.FileProperty.{FileProperty}
use Rattle.gb_graph.specs.Ranked.{number_at}
use Rattle.gb_plan.specs.Task.{Path}
use Rattle.gb_predict.specs.Marks.{culprit, culprit_at, may_change}
use Rattle.gb_predict.specs.declared.predicted_outcome.Prediction.{Prediction}

-- it is the least number for which this holds; or it holds for none
abbrev pub IsLeast : (ℕ → Type 0) → Option ℕ → Type 0
IsLeast Holds None = (number : ℕ) → ¬ Holds number
IsLeast Holds (Some number) = Holds number × ((other : ℕ) → Holds other → number ≤ other)

abbrev pub lesser : Option ℕ → Option ℕ → Option ℕ
lesser None other = other
lesser (Some number) None = Some number
lesser (Some number) (Some other) = if nat_lt other number then Some other else Some number

-- it holds by one of these
abbrev pub ByOne : {X : Type 0} → (X → ℕ → Type 0) → List X → ℕ → Type 0
ByOne Holds [] number = ⊥
ByOne Holds (x ∷ xs) number = Holds x number ⊎ ByOne Holds xs number

-- the task of this number, whose output this is, may change it
abbrev pub IsChanged : List Prediction → TaskPlace → ℕ → Type 0
IsChanged reported at number =
    (at.task ≡ number) × (one : Prediction) × (slice_get reported number ≡ Some one) × (may_change one ≡ true)

-- it is one of these outputs, and overlaps the root
abbrev pub IsReadAt : List TaskPlace → List Prediction → Place → ℕ → Type 0
IsReadAt row reported root number =
    (at : TaskPlace) × Contains row at × IsTrue (overlaps root at.place) × IsChanged reported at number

abbrev pub IsReadBy : List TaskPlace → List Prediction → List FileProperty → ℕ → Type 0
IsReadBy row reported files number = ByOne (λ property. ByOne (IsReadAt row reported) property.roots) files
    number

-- ---- Tasks that do not start

-- the culprit of the task of a number
abbrev pub culprit_of : List Prediction → Option ℕ → Option Path
culprit_of reported None = None
culprit_of reported (Some number) = option_and_then culprit (slice_get reported number)

abbrev pub IsBelow : ℕ → Option ℕ → Type 0
IsBelow long None = ⊤
IsBelow long (Some number) = number < long

-- the numbers of those that have a culprit, by their paths
pub record AreNotStarting (reported : List Prediction) (not_starting : List (List ℕ × ℕ)) : Type 0 where
  pub low : (path : Path) → IsBelow (length reported) (number_at not_starting path)
  pub culprits : (path : Path) → culprit_of reported (number_at not_starting path) ≡ culprit_at reported path
