use Rattle.std.specs.Prelude.{[], None}
use Rattle.gb_parts_tests.proofs.disk.in_one_build.Given as goal

-- nothing is said of the folder
abbrev pub ghost-for_one_build : goal.ghost-for_one_build
ghost-for_one_build a = record { states = []; remains = None }
