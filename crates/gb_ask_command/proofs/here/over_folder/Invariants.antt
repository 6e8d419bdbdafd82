use Rattle.std.specs.Prelude.{[], None}
use Rattle.gb_ask_command.proofs.here.over_folder.Given as goal

-- nothing is said of the folder
abbrev pub ghost-for_one_build : goal.ghost-for_one_build
ghost-for_one_build g a = record { states = []; remains = None }
