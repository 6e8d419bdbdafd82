-- What is remembered of each task's last run that ended well, in whole contents.
use Rattle.std.specs.Prelude.{not, List, map, bytes_eq, Option}
use Rattle.std.specs.FinMap.Entries.{find, put, where_key}
use Rattle.gb_folder.specs.Files.{Bytes, files_where, Files, Contents}
use Rattle.gb_core.specs.Lists.{byte_order}
use Rattle.gb_plan.specs.Task.{Path, is_output_of}
use Rattle.gb_action.specs.Meanings.{Values}
use Rattle.gb_plan.specs.declared.task.Action.{Action}
use Rattle.gb_plan.specs.declared.task.Output.{Output}
use Rattle.gb_plan.specs.declared.task.TaskDeclaration.{TaskDeclaration as Task}
use Rattle.gb_action.specs.Files.{Trees}
use Rattle.gb_semantics.specs.Tree.{trees_of}

-- A run that ended well: its actions with their arguments, its input values and files, its outputs, and the
-- files at their places.
pub record Entry : Type 0 where
  pub actions : List Action
  pub values : Values
  pub inputs : Trees
  pub outputs : List Output
  pub files : Files

-- entries by task, in the order of the paths
abbrev pub Memory : Type 0
Memory = List (Path × Entry)

abbrev pub recalled : Memory → Path → Option Entry
recalled memory path = find byte_order path memory

abbrev pub remember : Memory → Path → Entry → Memory
remember memory path entry = put byte_order path entry memory

abbrev pub forget : Memory → Path → Memory
forget memory path = where_key byte_order (λ other. not (bytes_eq other path)) memory

-- the files at the task's output places
abbrev pub output_files : Task → Files → Files
output_files task files = files_where (is_output_of task) files

-- the entry of a run of the task that ended well and left the folder like this
abbrev pub entry_of : Task → Files → Entry
entry_of task files = record {
  actions = task.actions;
  values = task.values;
  inputs = trees_of task files;
  outputs = task.outputs;
  files = output_files task files;
}

-- The world between two events: the folder outside `.gb`, and what is remembered.
pub record World : Type 0 where
  pub folder : Contents
  pub memory : Memory

-- all contents of a world's folder
abbrev pub folder_contents : World → List Bytes
folder_contents world = map (λ file. file.1) world.folder.files
