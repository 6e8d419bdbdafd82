-- What a build from scratch leaves.
use Rattle.std.specs.Prelude.{not, List, [], map, if◌then◌else◌, Option, Some, None, Result, Ok, Err}
use Rattle.std.specs.List.{list_any, filter, fold}
use Rattle.gb_report.specs.declared.fault.Fault.{Fault}
use Rattle.gb_report.specs.declared.report.Options.{Options}
use Rattle.gb_folder.specs.Files.{is_empty, Files, Contents, files_where}
use Rattle.gb_plan.specs.declared.task.TaskDeclaration.{TaskDeclaration as Task}
use Rattle.gb_plan.specs.Task.{is_output_of}
use Rattle.gb_semantics.specs.Tree.{input_faults}
use Rattle.gb_semantics.specs.Kinds.{Kinds}
use Rattle.gb_semantics.specs.Made.{made, put_over, blocked_in, rest_of}
use Rattle.gb_plan.specs.Graph.{Plan}

-- the scheduled tasks that are not skipped; in a dry run none
abbrev pub active : Options → Plan → List Task
active options plan =
    if options.dry_run then [] else filter (λ task. task.runs) (map (λ planned. planned.task) plan)

-- the folder without the files at the output places of these tasks
abbrev pub cleared : List Task → Files → Files
cleared tasks files = files_where (λ place. not (list_any (λ task. is_output_of task place) tasks)) files

-- the files added, where the folder has room for them
abbrev pub put_at_outputs : Task → Files → Result Files (List Fault) → Option Files
put_at_outputs task files (Err fault) = None
put_at_outputs task files (Ok new) =
    if is_empty (blocked_in (rest_of task files) new) then Some (put_over files new) else None

-- one task more, on its inputs in the folder so far
abbrev pub add_task : Kinds → Contents → Option Files → Task → Option Files
add_task kinds folder None task = None
add_task kinds folder (Some files) task =
    if is_empty task.actions then Some files
    else if is_empty (input_faults task (record folder { files = files }))
    then put_at_outputs task files (made kinds task files)
    else None

-- What the plan's tasks make from scratch, on the inputs in this folder. No result where an input cannot be
-- read, an action fails, or files would block each other.
abbrev pub from_scratch : Kinds → Options → Plan → Contents → Option Files
from_scratch kinds options plan folder =
    fold (add_task kinds folder) (Some (cleared (active options plan) folder.files)) (active options plan)
