-- Which places a file property includes, by the rule by which builds read its files.
use Rattle.std.specs.Prelude.{◌&&◌, Bool}
use Rattle.std.specs.List.{list_any}
use Rattle.gb_core.specs.Place.{is_under}
use Rattle.gb_folder.specs.Files.{Place}
use Rattle.gb_plan.specs.declared.task.FileProperty.{FileProperty}
use Rattle.gb_tree.specs.Property.{is_in}

-- a file at the place belongs to the property by this root
abbrev pub takes_in_from : FileProperty → Place → Place → Bool
takes_in_from property place root =
    is_under place root && is_in property.include property.exclude root place

-- a file at the place belongs to the property by one of its roots
abbrev pub takes_in : FileProperty → Place → Bool
takes_in property place = list_any (takes_in_from property place) property.roots
