-- What follows from the definitions alone.
use Rattle.std.specs.Prelude.{◌≡◌, ◌&&◌, is_some}
use Rattle.gb_folder.specs.Files.{Files, Place, file_at}
use Rattle.gb_plan.specs.declared.task.FileProperty.{FileProperty}
use Rattle.gb_tree.specs.Property.{entries_of}
use Rattle.gb_tree.specs.Tree.{is_among}
use Rattle.gb_query.specs.Membership.{takes_in}

-- Whatever the files, a property reads exactly the files whose places it includes.
abbrev pub FilesAreTakenIn : Type 0
FilesAreTakenIn =
    (property : FileProperty) (files : Files) (place : Place)
    → is_among (entries_of property.naming property.roots property.include property.exclude files) place
    ≡ (takes_in property place && is_some (file_at files place))
