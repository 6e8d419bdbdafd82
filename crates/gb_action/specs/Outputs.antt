-- What exists at the paths of outputs, and the effect of a reply there.
use Rattle.std.specs.Prelude.{ℕ, Bool, ◌&&◌, ◌||◌, List, [], ◌∷◌, if◌then◌else◌, bytes_eq, Option, Some}
use Rattle.std.specs.Prelude.{None, is_some, option_and_then}
use Rattle.std.specs.Option.{option_or}
use Rattle.std.specs.List.{list_any, list_all}
use Rattle.gb_action.specs.Files.{Tree, file_at}
use Rattle.gb_action.specs.declared.output_files.OutputFiles.{OutputFiles}
use Rattle.gb_action.specs.declared.reply.Written.{Written}
use Rattle.gb_action.specs.declared.reply.OutputPath.{OutputPath}
use Rattle.gb_action.specs.declared.reply.Reply.{Reply}

-- what files that are written one after another leave at a path of an output: the last one counts
abbrev pub written_at : List Written → List ℕ → List ℕ → Option (List ℕ)
written_at [] output path = None
written_at (file ∷ files) output path =
    option_or (written_at files output path)
    (if bytes_eq file.output output && bytes_eq file.path path then Some file.bytes else None)

-- the files of an output
abbrev pub files_of : List OutputFiles → List ℕ → Option Tree
files_of [] name = None
files_of (output ∷ outputs) name =
    if bytes_eq output.name name then Some output.files else files_of outputs name

-- what exists at a path of an output
abbrev pub exists_at : List OutputFiles → List ℕ → List ℕ → Option (List ℕ)
exists_at outputs output path = option_and_then (λ files. file_at files path) (files_of outputs output)

abbrev pub is_removed : List OutputPath → List ℕ → List ℕ → Bool
is_removed removes output path =
    list_any (λ removed. bytes_eq removed.output output && bytes_eq removed.path path) removes

-- what a reply leaves at a path: what it writes there, else nothing if it removes it, else what was there
abbrev pub left_at : Reply → List OutputFiles → List ℕ → List ℕ → Option (List ℕ)
left_at reply old output path =
    option_or (written_at reply.writes output path)
    (if is_removed reply.removes output path then None else exists_at old output path)

-- the reply names the path
abbrev pub is_named : Reply → List ℕ → List ℕ → Bool
is_named reply output path =
    is_some (written_at reply.writes output path) || is_removed reply.removes output path

-- each output that the reply names is one of these
abbrev pub names_only : List OutputFiles → Reply → Bool
names_only outputs reply =
    let is_output = λ (name : List ℕ). list_any (λ (output : OutputFiles). bytes_eq output.name name)
    outputs in
    list_all (λ (file : Written). is_output file.output) reply.writes
    && list_all (λ (removed : OutputPath). is_output removed.output) reply.removes
