-- Which registered tasks read a place, and which make it.
use Rattle.std.specs.Prelude.{List, [], ◌∷◌, Option, Some, None, Result, Ok, Err, if◌then◌else◌}
use Rattle.std.specs.List.{flat_map}
use Rattle.gb_core.specs.Place.{is_under}
use Rattle.gb_folder.specs.Files.{Place}
use Rattle.gb_plan.specs.Graph.{Registry, declaration_at, paths_of}
use Rattle.gb_plan.specs.Task.{Path}
use Rattle.gb_plan.specs.declared.task.FileProperty.{FileProperty}
use Rattle.gb_plan.specs.declared.task.Output.{Output}
use Rattle.gb_plan.specs.declared.task.TaskDeclaration.{TaskDeclaration}
use Rattle.gb_report.specs.declared.fault.Fault.{Fault}
use Rattle.gb_query.specs.Membership.{takes_in}
use Rattle.gb_query.specs.declared.at_place.Found.{Found}
use Rattle.gb_query.specs.declared.at_place.Found.TheVariants as founds
use Rattle.gb_query.specs.declared.at_place.Relation.{Relation}
use Rattle.gb_query.specs.declared.at_place.Relation.TheVariants as relations

-- a property of the task that includes the place
abbrev pub reader_in : Path → Place → FileProperty → List Found
reader_in path place property = if takes_in property place then founds.Related path property.name ∷ [] else []

-- an output of the task that is the place, or above it
abbrev pub maker_in : Path → Place → Output → List Found
maker_in path place output =
    if is_under place output.place then founds.Related path output.name ∷ [] else []

-- all findings for a task, in the order in which it declares them
abbrev pub found_of : Relation → Place → Path → TaskDeclaration → List Found
found_of relations.Reads place path task = flat_map (reader_in path place) task.files
found_of relations.Makes place path task = flat_map (maker_in path place) task.outputs

-- for the task registered at a path: a task that has a fault is found with its fault, whatever the place
abbrev pub found_at : Relation → Place → Path → Option (Result TaskDeclaration Fault) → List Found
found_at relation place path (Some (Ok task)) = found_of relation place path task
found_at relation place path (Some (Err fault)) = founds.Unreadable path fault ∷ []
found_at relation place path None = []

-- for all registered tasks, in the order of registration
abbrev pub found_in : Relation → Place → Registry → List Found
found_in relation place registry =
    flat_map (λ path. found_at relation place path (declaration_at registry path)) (paths_of registry)
