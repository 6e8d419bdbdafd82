use Rattle.std.specs.Prelude.{[], None}
use Rattle.gb_parts_tests.proofs.disk.on_disk.Given as goal

-- nothing is said of the folder
abbrev pub ghost-new : goal.ghost-new
ghost-new a = record { states = []; remains = None }
