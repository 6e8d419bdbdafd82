-- Files of an action, by the texts of their places.
use Rattle.std.specs.Prelude.{map, string_bytes}
use Rattle.std.specs.declared.string.String.{String}
use Rattle.std.specs.BTreeMap.{BTreeMap}
use Rattle.std.specs.Global.{Global}
use Rattle.gb_folder.specs.Files.{Bytes, Files}

abbrev pub ByText : Type 0
ByText = BTreeMap (String Global) Bytes

-- the files by place
abbrev pub files_in : ByText → Files
files_in files = map (λ e. (string_bytes e.0, e.1)) files.entries
