-- The trees of a task's file properties, and why they are not read.
use Rattle.std.specs.Prelude.{Bool, ◌&&◌, List, map}
use Rattle.std.specs.List.{list_any, list_all, flat_map, filter}
use Rattle.gb_report.specs.declared.fault.Fault.{Fault}
use Rattle.gb_report.specs.declared.fault.Fault.TheVariants as faults
use Rattle.gb_tree.specs.declared.fault.TreeFault.{TreeFault}
use Rattle.gb_tree.specs.declared.fault.TreeFault.TheVariants as trees
use Rattle.gb_folder.specs.Files.{is_empty, Files, Contents}
use Rattle.gb_action.specs.Files.{Tree, Trees}
use Rattle.gb_tree.specs.Tree.{special_roots}
use Rattle.gb_tree.specs.Property.{tree_of as tree_by, tree_faults as faults_by}
use Rattle.gb_plan.specs.declared.task.FileProperty.{FileProperty}
use Rattle.gb_plan.specs.declared.task.TaskDeclaration.{TaskDeclaration as Task}
use Rattle.gb_plan.specs.Task.{output_places}

-- the files of the property in a folder, by their paths
abbrev pub tree_of : FileProperty → Files → Tree
tree_of property files = tree_by property.naming property.roots property.include property.exclude files

-- the trees of all properties of the task
abbrev pub trees_of : Task → Files → Trees
trees_of task files = map (λ property. (property.name, tree_of property files)) task.files

-- there are properties that skip the task when empty, and all of them are empty
abbrev pub has_no_source : Task → Files → Bool
has_no_source task files =
    list_any (λ property. property.skip_when_empty) task.files
    && list_all (λ property. is_empty (tree_of property files))
    (filter (λ property. property.skip_when_empty) task.files)

-- ---- Faults

-- why a tree is not read, as a build reports it
abbrev pub reported_of_tree : TreeFault → Fault
reported_of_tree trees.OutOfMemory = faults.OutOfMemory
reported_of_tree (trees.Device place) = faults.Device place
reported_of_tree (trees.Missing place) = faults.Missing place
reported_of_tree (trees.Blocked place) = faults.Blocked place
reported_of_tree (trees.TooLarge place) = faults.TooLarge place
reported_of_tree (trees.BadFileName place) = faults.BadFileName place
reported_of_tree (trees.DuplicateInput name path) = faults.DuplicateInput name path
reported_of_tree (trees.TooManyFiles name) = faults.TooManyFiles name

-- the faults in reading the property's tree, in order
abbrev pub tree_faults : FileProperty → Contents → List Fault
tree_faults property folder =
    map reported_of_tree
    (faults_by property.name property.naming property.roots property.include property.exclude folder)

-- the faults in reading the task's inputs, by property
abbrev pub input_faults : Task → Contents → List Fault
input_faults task folder = flat_map (λ property. tree_faults property folder) task.files

-- the faults in listing its outputs: things at or under their places that no place can name
abbrev pub listing_faults : Task → Contents → List Fault
listing_faults task folder = map reported_of_tree (special_roots folder (output_places task))
