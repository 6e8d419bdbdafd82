use Rattle.std.proofs.Common.{lit<}
use Rattle.gb_core.proofs.LastColon.{cut_at_last, no_last}
use Rattle.gb_registry.proofs.projects.name_of.Goals as goal

pub returns-in-Some : goal.returns-in-Some
returns-in-Some c = (cut_at_last 58 _ _ _ (lit< tt) c.in-Some.ensures.cases).1

pub returns-in-None : goal.returns-in-None
returns-in-None c = (no_last 58 _ (lit< tt) c.in-None.ensures.cases).1
