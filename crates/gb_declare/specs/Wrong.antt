-- Why no nodes are made for an expression.
use Rattle.std.specs.Prelude.{ℕ, List, [], ◌∷◌, Option, Some, None}
use Rattle.gb_provider.specs.Meanings.{Meanings}
use Rattle.gb_provider.specs.declared.fault.StepFault.{StepFault}
use Rattle.gb_provider.specs.declared.fault.StepFault.TheVariants as steps
use Rattle.gb_provider.specs.Table.{Table, map_named, flat_map_named, zip_named}
use Rattle.gb_provider.specs.declared.expression.Node.{Node}
use Rattle.gb_report.specs.declared.fault.Fault.{Fault}
use Rattle.gb_report.specs.declared.fault.Fault.TheVariants as faults
use Rattle.gb_registry.specs.References.{name_faults}
use Rattle.gb_registry.specs.Wrong.{place_faults, function_faults, found_in}
use Rattle.gb_script.specs.declared.function.Function.{Function}
use Rattle.gb_script.specs.Tree.{Tree, Root, PropertyOf, DirOf, FileOf, TaskOf, Link, MapBy}
use Rattle.gb_script.specs.Tree.{FlatMapBy, ZipBy, Else}
use Rattle.gb_declare.specs.Site.{Site, property_node}

-- the property has no node
abbrev pub known_faults : List ℕ → Option Node → List Fault
known_faults name None = faults.UnknownProperty name ∷ []
known_faults name (Some node) = []

-- the text is no place in the project, or no path
abbrev pub constant_faults : Site → Root → List Fault
constant_faults site (DirOf text) = place_faults site.project text
constant_faults site (FileOf text) = place_faults site.project text
constant_faults site (TaskOf text) = name_faults site.project text
constant_faults site other = []

-- the faults of a source that is no list
abbrev pub root_faults : Site → Root → List Fault
root_faults site (PropertyOf name) = known_faults name (property_node site name)
root_faults site other = constant_faults site other

-- the faults of a step: no function of that use has the name, or it takes another count of arguments
module _ {M F Z S : Type 0} (means : Meanings M F Z S) (functions : Table M F Z S) where
  abbrev pub link_faults : Link → List Fault
  link_faults (MapBy f) = function_faults means.map.arity f (map_named functions f.name)
  link_faults (FlatMapBy f) = function_faults means.flat_map.arity f (flat_map_named functions f.name)
  link_faults (ZipBy tree f) = function_faults means.zip.arity f (zip_named functions f.name)
  link_faults (Else tree) = []

  -- the faults of an expression, in the order in which its nodes are made
  abbrev pub making_faults : Site → Tree → List Fault
  making_faults site tree = found_in (root_faults site) link_faults tree

-- the fault of a step as it is reported
abbrev pub step_fault : Function → StepFault → Fault
step_fault f steps.UnknownTransform = faults.UnknownTransform f.name
step_fault f steps.BadArguments = faults.BadArguments f.name
step_fault f steps.OutOfMemory = faults.OutOfMemory
