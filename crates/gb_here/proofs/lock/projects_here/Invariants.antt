use Rattle.std.specs.Prelude.{[], None}
use Rattle.gb_here.proofs.lock.projects_here.Given as goal

-- nothing is said of the folder
abbrev pub ghost-new : goal.ghost-new
ghost-new g a = record { states = []; remains = None }
