-- The text of a reason.
use Rattle.std.specs.Prelude.{ℕ, List, [], ◌∷◌, ◌++◌, if◌then◌else◌, codes, decimal}
use Rattle.std.specs.List.{flat_map}
use Rattle.gb_action.specs.declared.change.Change.{Change}
use Rattle.gb_action.specs.declared.change.Change.TheVariants.{Added, Modified, Removed}
use Rattle.gb_core.specs.Place.{beneath}
use Rattle.gb_core.specs.declared.value.Value.{Value}
use Rattle.gb_core.specs.declared.value.Value.TheVariants as values
use Rattle.gb_report.specs.Fault.{shown}
use Rattle.gb_reason.specs.declared.reason.Reason.{Reason}
use Rattle.gb_reason.specs.declared.reason.Reason.TheVariants as reasons

-- a text between quotes: its first 80 characters, and '?' for each control character among them
abbrev pub quoted : List ℕ → List ℕ
quoted text = 34 ∷ shown text ++ 34 ∷ []

-- a value as it is printed
abbrev pub value_text : Value → List ℕ
value_text (values.Text text) = quoted text
value_text (values.Flag flag) = if flag then codes "true" else codes "false"
value_text (values.List texts) = codes "[" ++ flat_map (λ text. codes " " ++ quoted text) texts ++ codes " ]"
value_text (values.Place place) = codes "file " ++ place
value_text (values.Task path) = codes "task " ++ path

-- a file at or under an output, and what happened to it
abbrev pub output_text : List ℕ → Change → List ℕ
output_text place (Added path) = codes "output " ++ beneath place path ++ codes " was added"
output_text place (Modified path) = codes "output " ++ beneath place path ++ codes " was modified"
output_text place (Removed path) = codes "output " ++ beneath place path ++ codes " was removed"

-- a file of a property, as lists of changes print it
abbrev pub file_text : List ℕ → Change → List ℕ
file_text name (Added path) = name ++ codes " ADDED " ++ path
file_text name (Modified path) = name ++ codes " MODIFIED " ++ path
file_text name (Removed path) = name ++ codes " REMOVED " ++ path

-- what a value was, and what it is
abbrev pub difference_text : Value → Value → List ℕ
difference_text was is = value_text was ++ codes ", is " ++ value_text is

abbrev pub reason_text : Reason → List ℕ
reason_text reasons.NoRecord = codes "no record"
reason_text reasons.Rerun = codes "--rerun-tasks"
reason_text reasons.Stale = codes "upToDateWhen is false"
reason_text reasons.NoOutputs = codes "it has no outputs"
reason_text (reasons.ActionAdded kind) = codes "action " ++ kind ++ codes " was added"
reason_text (reasons.ActionRemoved kind) = codes "action " ++ kind ++ codes " was removed"
reason_text reasons.ActionOrder = codes "actions are in another order or number"
reason_text (reasons.ActionVersion kind) = codes "action " ++ kind ++ codes " has another version"
reason_text (reasons.ArgumentCount kind) = codes "action " ++ kind ++ codes " has more or fewer arguments"
reason_text (reasons.Argument kind number was is) =
    codes "argument " ++ decimal number ++ codes " of " ++ kind ++ codes " was " ++ difference_text was is
reason_text reasons.ValueNames = codes "input values are declared otherwise"
reason_text (reasons.Value name was is) =
    codes "input value " ++ name ++ codes " was " ++ difference_text was is
reason_text reasons.OutputNames = codes "outputs are declared otherwise"
reason_text (reasons.Output place change) = output_text place change
reason_text reasons.FileNames = codes "input files are declared otherwise"
reason_text (reasons.File name change) = file_text name change
