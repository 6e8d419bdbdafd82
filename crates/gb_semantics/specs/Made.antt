-- What the actions of a task make of its inputs.
use Rattle.std.specs.Prelude.{Bool, not, List, [], ◌∷◌, ◌++◌, map, length, if◌then◌else◌, bytes_eq, nat_lt}
use Rattle.std.specs.Prelude.{Option, None, Some, Result, Ok, Err}
use Rattle.std.specs.List.{flat_map, filter, fold}
use Rattle.gb_core.specs.Place.{beneath, is_place}
use Rattle.gb_report.specs.declared.fault.Fault.{Fault}
use Rattle.gb_report.specs.declared.fault.Fault.TheVariants as faults
use Rattle.gb_folder.specs.Files.{is_empty, Place, Bytes, Files, with_file}
use Rattle.gb_folder.specs.Files.{files_where, files_under, is_blocked}
use Rattle.gb_folder.specs.Limits.{max_file, max_files}
use Rattle.gb_action.specs.declared.reply.Written.{Written}
use Rattle.gb_action.specs.Files.{Trees}
use Rattle.gb_action.specs.Meanings.{Values}
use Rattle.gb_plan.specs.Task.{Text, is_output_of}
use Rattle.gb_plan.specs.declared.task.Action.{Action}
use Rattle.gb_plan.specs.declared.task.Output.{Output}
use Rattle.gb_plan.specs.declared.task.TaskDeclaration.{TaskDeclaration as Task}
use Rattle.gb_semantics.specs.Kinds.{Name, Kinds, kind_of}
use Rattle.gb_semantics.specs.Tree.{trees_of, has_no_source}

-- ---- Where an action's files go

-- the output of a name
abbrev pub output_named : List Output → Name → Option Output
output_named [] name = None
output_named (output ∷ outputs) name =
    if bytes_eq output.name name then Some output else output_named outputs name

-- a file under the place of its output
abbrev pub placed_in : Option Output → Written → List (Place × Bytes)
placed_in None file = []
placed_in (Some output) file = (beneath output.place file.path, file.bytes) ∷ []

-- the files that an action writes, each under the place of the output that it names
abbrev pub placed : List Output → List Written → List (Place × Bytes)
placed outputs written = flat_map (λ file. placed_in (output_named outputs file.output) file) written

-- files added to others, one after another: of two at one place the later one is kept
abbrev pub put_over : Files → List (Place × Bytes) → Files
put_over held files = fold (λ m file. with_file m file.0 file.1) held files

-- ---- Faults of its files

abbrev pub fault_if : Bool → Fault → List Fault
fault_if hindered fault = if hindered then fault ∷ [] else []

-- The faults of a file among all of the task's: it is at no place; it is at a folder of another, or under
-- one; it is too large.
abbrev pub file_faults : Files → Place × Bytes → List Fault
file_faults all file =
    fault_if (not (is_place file.0)) (faults.BadPlace file.0)
    ++ fault_if (is_blocked all file.0) (faults.Blocked file.0)
    ++ fault_if (nat_lt max_file (length file.1)) (faults.TooLarge file.0)

-- the outputs with more files than are allowed
abbrev pub full_outputs : List Output → Files → List Output
full_outputs outputs files =
    filter (λ output. nat_lt max_files (length (files_under files output.place))) outputs

-- the faults of an action's files over those that the task holds: each by place, then too many at an output
abbrev pub step_faults : List Output → Files → List (Place × Bytes) → List Fault
step_faults outputs held files =
    flat_map (file_faults (put_over held files)) (put_over [] files)
    ++ map (λ output. faults.TooManyFiles output.name) (full_outputs outputs (put_over held files))

-- ---- What the actions make

-- one action more: its files over those so far, or its faults, the fault that ends the run first
abbrev pub put_result : List Output → Files → Result (List Written) Text → Result Files (List Fault)
put_result outputs held (Err text) = Err (faults.ActionFailed text ∷ [])
put_result outputs held (Ok written) =
    let hindrances = step_faults outputs held (placed outputs written) in
    if is_empty hindrances then Ok (put_over held (placed outputs written)) else Err hindrances

-- what an action does to the files so far; after a fault it does nothing
abbrev pub act : Kinds → List Output → Values → Trees → Result Files (List Fault) → Action
    → Result Files (List Fault)
act kinds outputs values trees (Err fault) action = Err fault
act kinds outputs values trees (Ok held) action =
    put_result outputs held (kinds.makes (kind_of action) action.args values trees)

-- from no file, along the actions
abbrev pub made_of : Kinds → List Action → Values → Trees → List Output → Result Files (List Fault)
made_of kinds actions values trees outputs = fold (act kinds outputs values trees) (Ok []) actions

-- The files that the task's actions make of its inputs in the folder, or the faults that end their run.
-- Without source, no files.
abbrev pub made : Kinds → Task → Files → Result Files (List Fault)
made kinds task files =
    if has_no_source task files then Ok []
    else made_of kinds task.actions task.values (trees_of task files) task.outputs

-- ---- In the folder

-- the files that are at no output of the task
abbrev pub rest_of : Task → Files → Files
rest_of task files = files_where (λ place. not (is_output_of task place)) files

-- The folder with the task's output places emptied and then these files added: what a run that ended well
-- leaves.
abbrev pub with_outputs : Task → Files → Files → Files
with_outputs task files new = put_over (rest_of task files) new

-- the places of these files at which the rest of the folder has no room
abbrev pub blocked_in : Files → List (Place × Bytes) → List Place
blocked_in rest files = map (λ file. file.0) (filter (λ file. is_blocked rest file.0) files)
