-- What a full execution reads.
use Rattle.std.specs.Prelude.{List, [], ◌∷◌, if◌then◌else◌}
use Rattle.std.specs.List.{flat_map, zip}
use Rattle.gb_action.specs.Changes.{Changes, changes_between}
use Rattle.gb_action.specs.Files.{Tree, Trees}
use Rattle.gb_plan.specs.declared.task.FileProperty.{FileProperty}

-- the changes of a property with this tree from no file, where it is incremental
abbrev pub added_in : FileProperty → Tree → List Changes
added_in property tree =
    if property.incremental then (property.name, changes_between [] tree) ∷ [] else []

-- the changes that the actions of a full execution get: each path of an incremental property as added
abbrev pub added_of : List FileProperty → Trees → List Changes
added_of properties trees = flat_map (λ pair. added_in pair.0 pair.1.1) (zip properties trees)
