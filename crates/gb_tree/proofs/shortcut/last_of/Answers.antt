use Rattle.std.proofs.Common.{[]}
use Rattle.gb_tree.proofs.Comparing.{after_last_slash, no_slash}
use Rattle.gb_tree.proofs.shortcut.last_of.Goals as goal

pub returns-in-Some : goal.returns-in-Some
returns-in-Some c = after_last_slash c.args.path.now _ c.in-Some.last.now c.in-Some.ensures.cases

pub returns-in-None : goal.returns-in-None
returns-in-None c = ([], no_slash c.args.path.now c.in-None.ensures.cases)
