use Rattle.std.proofs.Common.{◌∙◌}
use Rattle.gb_core.proofs.Beneath.{below, not_below}
use Rattle.gb_core.proofs.place.lies_beneath.Goals as goal

pub returns-in-Some : goal.returns-in-Some
returns-in-Some c = c.starts_with.ensures.value ∙ below c.args.text.now c.args.folder.now _ c.in-Some.ensures.cases.0 c.in-Some.ensures.cases.1

pub returns-in-None : goal.returns-in-None
returns-in-None c = not_below c.args.text.now c.args.folder.now c.in-None.ensures.cases
