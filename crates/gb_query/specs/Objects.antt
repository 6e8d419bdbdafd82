-- Answers as JSON.
use Rattle.std.specs.Prelude.{ℕ, ◌≡◌, List, Some, codes, map}
use Rattle.serde_json.specs.Data.{Data, string, array, object, no_members, member}
use Rattle.serde_json.specs.Read.{read}
use Rattle.serde_json.specs.View.{items_of}
use Rattle.gb_report.specs.Fault.{fault_text}
use Rattle.gb_report.specs.Report.{line}
use Rattle.gb_query.specs.declared.inventory.Entry.{Entry}
use Rattle.gb_query.specs.declared.inventory.Entry.TheVariants as entries
use Rattle.gb_query.specs.declared.answer_lines.Activity.{Activity}
use Rattle.gb_query.specs.declared.answer_lines.Activity.TheVariants as activities
use Rattle.gb_query.specs.declared.at_place.Found.{Found}
use Rattle.gb_query.specs.declared.at_place.Found.TheVariants as founds
use Rattle.gb_query.specs.declared.at_place.Relation.{Relation}
use Rattle.gb_query.specs.declared.at_place.Relation.TheVariants as relations

-- the text is a line of JSON that reads back as this
abbrev pub IsJsonOf : Data → List ℕ → Type 0
IsJsonOf value text = (json : List ℕ) × (text ≡ line json) × (read json ≡ Some value)

-- an object of two texts
abbrev pub pair : List ℕ → List ℕ → List ℕ → List ℕ → Data
pair key text other_key other_text =
    object (member key (string text) (member other_key (string other_text) no_members))

-- ---- The answer to a search

-- the key of the name
abbrev pub relation_key : Relation → List ℕ
relation_key relations.Reads = codes "property"
relation_key relations.Makes = codes "output"

abbrev pub found_object : Relation → Found → Data
found_object relation (founds.Related path name) = pair (relation_key relation) name (codes "task") path
found_object relation (founds.Unreadable path fault) =
    pair (codes "fault") (fault_text fault) (codes "task") path

abbrev pub found_data : Relation → List Found → Data
found_data relation found = array (items_of (map (found_object relation) found))

-- ---- The answer about a folder

-- whether a build runs
abbrev pub activity_word : Activity → List ℕ
activity_word activities.Idle = codes "none"
activity_word activities.Builds = codes "runs"
activity_word activities.Unknown = codes "unknown"

-- the kind of a file of `.gb`, and its task, or its place if it belongs to no task
abbrev pub entry_object : Entry → Data
entry_object (entries.Record path) = pair (codes "kind") (codes "record") (codes "task") path
entry_object (entries.Damaged path) = pair (codes "kind") (codes "damaged") (codes "task") path
entry_object (entries.Unregistered path) = pair (codes "kind") (codes "unregistered") (codes "task") path
entry_object (entries.Foreign place) = pair (codes "kind") (codes "foreign") (codes "place") place

abbrev pub status_data : Activity → List Entry → Data
status_data activity found =
    object (member (codes "build") (string (activity_word activity))
    (member (codes "files") (array (items_of (map entry_object found))) no_members))
