-- The printed answers to queries.
use Rattle.std.specs.Prelude.{ℕ, List, ◌++◌, codes}
use Rattle.std.specs.List.{flat_map}
use Rattle.gb_picture.specs.Shown.{shown_text}
use Rattle.gb_report.specs.Fault.{fault_text}
use Rattle.gb_report.specs.Report.{line}
use Rattle.gb_query.specs.declared.inventory.Entry.{Entry}
use Rattle.gb_query.specs.declared.inventory.Entry.TheVariants as entries
use Rattle.gb_query.specs.declared.answer_lines.Activity.{Activity}
use Rattle.gb_query.specs.declared.answer_lines.Activity.TheVariants as activities
use Rattle.gb_query.specs.declared.at_place.Found.{Found}
use Rattle.gb_query.specs.declared.at_place.Found.TheVariants as founds

-- the task with its property or output, or why it cannot be read
abbrev pub found_line : Found → List ℕ
found_line (founds.Related path name) = line (path ++ codes " " ++ name)
found_line (founds.Unreadable path fault) = line (path ++ codes " cannot be read: " ++ fault_text fault)

abbrev pub found_text : List Found → List ℕ
found_text found = flat_map found_line found

-- whether a build runs
abbrev pub activity_text : Activity → List ℕ
activity_text activities.Idle = codes "no build runs"
activity_text activities.Builds = codes "a build runs"
activity_text activities.Unknown = codes "not known whether a build runs"

-- the kind of a file of `.gb`
abbrev pub entry_text : Entry → List ℕ
entry_text (entries.Record path) = path ++ codes " record"
entry_text (entries.Damaged path) = path ++ codes " damaged record"
entry_text (entries.Unregistered path) = path ++ codes " record of a task that no script registers"
entry_text (entries.Foreign place) = shown_text place ++ codes " not a record"

abbrev pub status_text : Activity → List Entry → List ℕ
status_text activity found =
    line (activity_text activity) ++ flat_map (λ entry. line (entry_text entry)) found
