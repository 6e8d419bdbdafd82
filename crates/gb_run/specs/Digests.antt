-- The digests of files, by place and by output.
use Rattle.std.specs.Prelude.{List, map, string_bytes}
use Rattle.std.specs.declared.string.String.{String}
use Rattle.std.specs.BTreeMap.{BTreeMap}
use Rattle.std.specs.Global.{Global}
use Rattle.gb_folder.specs.Files.{Bytes, Files}
use Rattle.gb_action.specs.Files.{Trees}
use Rattle.gb_tree.specs.Prints.{digests_of}
use Rattle.gb_tree.specs.Tree.{files_from}
use Rattle.gb_plan.specs.declared.task.Output.{Output}

abbrev pub ByPlace : Type 0
ByPlace = BTreeMap (String Global) Bytes

-- the digests, by the bytes of their places
abbrev pub digests_in : ByPlace → Files
digests_in held = map (λ e. (string_bytes e.0, e.1)) held.entries

-- the name of each output, with the digests of the files at or under its place
abbrev pub prints_at : List Output → Files → Trees
prints_at outputs files = map (λ output. (output.name, digests_of (files_from files output.place))) outputs
