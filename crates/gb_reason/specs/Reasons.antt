-- Why a task runs, as reasons in their order: its record against what it has now.
use Rattle.std.specs.Prelude.{ℕ, ◌&&◌, ◌==◌, ◌+◌, Bool, not, List, [], ◌∷◌, ◌++◌, map, length, find}
use Rattle.std.specs.Prelude.{Option, Some, None, option_map, if◌then◌else◌, bytes_eq}
use Rattle.std.specs.Cmp.Lexicographic.{pointwise}
use Rattle.std.specs.List.{flat_map, list_any, zip}
use Rattle.gb_folder.specs.Files.{is_empty}
use Rattle.gb_core.specs.declared.value.Value.{Value}
use Rattle.gb_action.specs.Changes.{Changes, changes_between}
use Rattle.gb_action.specs.Shapes.{is_form}
use Rattle.gb_history.specs.Record.{Prints, Record}
use Rattle.gb_history.specs.declared.decide.Present.{Present}
use Rattle.gb_history.specs.declared.record.OutputRecord.{OutputRecord}
use Rattle.gb_plan.specs.declared.task.Action.{Action}
use Rattle.gb_reason.specs.Same.{is_value}
use Rattle.gb_reason.specs.declared.reason.Reason.{Reason}
use Rattle.gb_reason.specs.declared.reason.Reason.TheVariants as reasons

-- One reason if the two are declared differently, and else those of each pair.
abbrev pub part : {X : Type 0} → (X → X → Bool) → (X × X → List Reason) → Reason → List X → List X
    → List Reason
part is_declared reported otherwise old new =
    if pointwise is_declared old new then flat_map reported (zip old new) else otherwise ∷ []

-- values of one name
abbrev pub has_name : {X : Type 0} → List ℕ × X → List ℕ × X → Bool
has_name old new = bytes_eq old.0 new.0

abbrev pub of_value : (List ℕ × Value) × (List ℕ × Value) → List Reason
of_value pair = if is_value pair.0.1 pair.1.1 then [] else reasons.Value pair.0.0 pair.0.1 pair.1.1 ∷ []

-- outputs of one name, form and place
abbrev pub is_output : OutputRecord → OutputRecord → Bool
is_output old new =
    bytes_eq old.prints.0 new.prints.0 && is_form old.form new.form && bytes_eq old.place new.place

abbrev pub of_output : OutputRecord × OutputRecord → List Reason
of_output pair = map (reasons.Output pair.0.place) (changes_between pair.0.prints.1 pair.1.prints.1)

abbrev pub of_files : Prints × Prints → List Reason
of_files pair = map (reasons.File pair.0.0) (changes_between pair.0.1 pair.1.1)

-- actions of one kind
abbrev pub has_kind : Action → Action → Bool
has_kind old new = bytes_eq old.kind new.kind

-- the arguments that differ, if the first argument has this number
abbrev pub of_arguments : List ℕ → ℕ → List Value → List Value → List Reason
of_arguments kind number [] new = []
of_arguments kind number (was ∷ old) [] = []
of_arguments kind number (was ∷ old) (is ∷ new) =
    (if is_value was is then [] else reasons.Argument kind number was is ∷ [])
    ++ of_arguments kind (number + 1) old new

abbrev pub of_action : Action × Action → List Reason
of_action pair =
    if not (pair.0.version == pair.1.version) then reasons.ActionVersion pair.0.kind ∷ []
    else if not (length pair.0.args == length pair.1.args) then reasons.ArgumentCount pair.0.kind ∷ []
    else of_arguments pair.0.kind 1 pair.0.args pair.1.args

-- the kind of the first action whose kind none of the others has
abbrev pub first_other : List Action → List Action → Option (List ℕ)
first_other others actions =
    option_map (λ action. action.kind)
    (find (λ action. not (list_any (has_kind action) others)) actions)

-- by the first kind that is new, and the first that is gone
abbrev pub kind_by : Option (List ℕ) → Option (List ℕ) → Reason
kind_by (Some kind) left = reasons.ActionAdded kind
kind_by None (Some kind) = reasons.ActionRemoved kind
kind_by None None = reasons.ActionOrder

-- how actions differ if they are not of the same kinds in order
abbrev pub kind_reason : List Action → List Action → Reason
kind_reason old new = kind_by (first_other old new) (first_other new old)

-- how a record differs from another: its actions, input values, outputs and file properties, in this order
abbrev pub differences : Record → Record → List Reason
differences old new =
    part has_kind of_action (kind_reason old.actions new.actions) old.actions new.actions
    ++ part has_name of_value reasons.ValueNames old.values new.values
    ++ part is_output of_output reasons.OutputNames old.outputs new.outputs
    ++ part has_name of_files reasons.FileNames old.inputs new.inputs

-- A task without outputs runs whenever it is requested: that is its reason.
abbrev pub reason_without : Present → Reason
reason_without present =
    if is_empty present.now.outputs then reasons.NoOutputs else reasons.NoRecord

-- If a task runs whatever its record says, that is the one reason; else how it differs.
abbrev pub reasons_from : Record → Present → List Reason
reasons_from run present =
    if present.rerun then reasons.Rerun ∷ []
    else if present.is_stale then reasons.Stale ∷ []
    else if is_empty present.now.outputs then reasons.NoOutputs ∷ []
    else differences run present.now

-- these changes of file properties, as reasons
abbrev pub change_reasons : List Changes → List Reason
change_reasons changes = flat_map (λ list. map (reasons.File list.0) list.1) changes

abbrev pub reasons_of : Option Record → Present → List Reason
reasons_of None present = reason_without present ∷ []
reasons_of (Some run) present = reasons_from run present
