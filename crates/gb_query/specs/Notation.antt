-- An answer as lines or as JSON.
use Rattle.std.specs.Prelude.{ℕ, ◌≡◌, List}
use Rattle.gb_folder.specs.Files.{Files}
use Rattle.gb_plan.specs.Graph.{Registry}
use Rattle.gb_plan.specs.Task.{Path}
use Rattle.gb_query.specs.Inventory.{AreEntriesOf}
use Rattle.gb_query.specs.Lines.{found_text, status_text}
use Rattle.gb_query.specs.Listing.{tasks_data, tasks_text}
use Rattle.gb_query.specs.Objects.{IsJsonOf, found_data, status_data}
use Rattle.gb_query.specs.declared.inventory.Entry.{Entry}
use Rattle.gb_query.specs.declared.answer_lines.Activity.{Activity}
use Rattle.gb_query.specs.declared.notation.Notation.{Notation}
use Rattle.gb_query.specs.declared.notation.Notation.TheVariants as notations
use Rattle.gb_query.specs.declared.at_place.Found.{Found}
use Rattle.gb_query.specs.declared.at_place.Relation.{Relation}

-- the text of registered tasks
abbrev pub IsTasksText : Notation → Registry → List ℕ → Type 0
IsTasksText notations.Lines registry text = text ≡ tasks_text registry
IsTasksText notations.Json registry text = IsJsonOf (tasks_data registry) text

-- the text of the findings of a search
abbrev pub IsFoundText : Notation → Relation → List Found → List ℕ → Type 0
IsFoundText notations.Lines relation found text = text ≡ found_text found
IsFoundText notations.Json relation found text = IsJsonOf (found_data relation found) text

-- the text of the entries of a folder
abbrev pub IsStatusText : Notation → Activity → List Entry → List ℕ → Type 0
IsStatusText notations.Lines activity found text = text ≡ status_text activity found
IsStatusText notations.Json activity found text = IsJsonOf (status_data activity found) text

-- the text of some entries; if contents are known, exactly those of the folder's files
abbrev pub IsStatusOf : Type 0 → Notation → Activity → Files → List Path → List ℕ → Type 0
IsStatusOf known notation activity files registered text =
    (found : List Entry) × (known → AreEntriesOf files registered found)
    × IsStatusText notation activity found text
