use Rattle.std.proofs.Common.{lit<, ◌∙◌, ap}
use Rattle.gb_core.specs.Path.{root_if_empty}
use Rattle.gb_core.proofs.LastColon.{cut_at_last, no_last}
use Rattle.gb_registry.proofs.names.project_of.Goals as goal

pub returns-in-Some : goal.returns-in-Some
returns-in-Some c = c.root_if_empty.ensures ∙ ap root_if_empty (cut_at_last 58 _ _ _ (lit< tt) c.in-Some.ensures.cases).0

pub returns-in-None : goal.returns-in-None
returns-in-None c = ap root_if_empty (no_last 58 _ (lit< tt) c.in-None.ensures.cases).0
