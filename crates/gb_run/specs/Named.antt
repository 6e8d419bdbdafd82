-- What the reply of an action names, as steps.
use Rattle.std.specs.Prelude.{◌++◌, List, [], ◌∷◌, map, Option, None, Some}
use Rattle.std.specs.List.{flat_map}
use Rattle.gb_core.specs.Place.{beneath}
use Rattle.gb_folder.specs.Files.{Place, Bytes, Files}
use Rattle.gb_action.specs.declared.output_files.OutputFiles.{OutputFiles}
use Rattle.gb_action.specs.declared.reply.OutputPath.{OutputPath}
use Rattle.gb_action.specs.declared.reply.Written.{Written}
use Rattle.gb_plan.specs.declared.task.Output.{Output}
use Rattle.gb_semantics.specs.Made.{output_named, placed}
use Rattle.gb_run.specs.Steps.{Step, put_steps}

-- a removal under the place of an output
abbrev pub removed_in : Option Output → OutputPath → List Step
removed_in None removed = []
removed_in (Some output) removed = (beneath output.place removed.path, None) ∷ []

-- removals as steps
abbrev pub removed : List Output → List OutputPath → List Step
removed outputs removes = flat_map (λ path. removed_in (output_named outputs path.output) path) removes

-- files as steps
abbrev pub put : List (Place × Bytes) → List Step
put files = map (λ file. (file.0, Some file.1)) files

-- the steps of a reply, one after another
abbrev pub named : List Output → List OutputPath → List Written → List Step
named outputs removes writes = removed outputs removes ++ put (placed outputs writes)

-- the same by place
abbrev pub steps_of : List Output → List OutputPath → List Written → List Step
steps_of outputs removes writes = put_steps [] (named outputs removes writes)

-- the files of outputs, each tree of them under the place of its output
abbrev pub existing : List Output → List OutputFiles → List (Place × Bytes)
existing [] observed = []
existing (output ∷ outputs) [] = []
existing (output ∷ outputs) (found ∷ observed) =
    map (λ file. (beneath output.place file.0, file.1)) found.files ++ existing outputs observed

-- the files of these steps
abbrev pub left_in : Step → List (Place × Bytes)
left_in (place, None) = []
left_in (place, Some bytes) = (place, bytes) ∷ []

abbrev pub files_left : List Step → Files
files_left steps = flat_map left_in steps

-- the files after a reply is done, over those that were read
abbrev pub held_after : List Output → List OutputFiles → List OutputPath → List Written → Files
held_after outputs observed removes writes =
    files_left (put_steps (put_steps [] (put (existing outputs observed))) (named outputs removes writes))
