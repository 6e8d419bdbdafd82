use Rattle.std.specs.Prelude.{[], None}
use Rattle.gb_builds_tests.proofs.commanding.on_disk.Given as goal

-- nothing is said of the folder
abbrev pub ghost-new : goal.ghost-new
ghost-new g a = record { states = []; remains = None }
