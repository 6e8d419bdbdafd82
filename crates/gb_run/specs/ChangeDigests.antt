-- The digests of the files at outputs.
use Rattle.std.specs.Prelude.{List, [], ◌∷◌, ◌++◌, map}
use Rattle.std.specs.List.{filter}
use Rattle.gb_core.specs.Place.{beneath, is_place}
use Rattle.gb_folder.specs.Files.{Place, Bytes}
use Rattle.gb_action.specs.Files.{Trees}
use Rattle.gb_plan.specs.declared.task.Output.{Output}

-- the digests of outputs, each tree of them under the place of its output
abbrev pub digests_at : List Output → Trees → List (Place × Bytes)
digests_at [] existed = []
digests_at (output ∷ outputs) [] = []
digests_at (output ∷ outputs) (tree ∷ existed) =
    map (λ file. (beneath output.place file.0, file.1)) tree.1 ++ digests_at outputs existed

-- those at places
abbrev pub at_places : List (Place × Bytes) → List (Place × Bytes)
at_places files = filter (λ file. is_place file.0) files
