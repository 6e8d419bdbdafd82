use Rattle.std.proofs.Common.{ap, sym, ◌∙◌}
use Rattle.std.specs.Option.{is_some}
use Rattle.gb_with.proofs.ByPath.{found}
use Rattle.gb_with.proofs.remaking.is_made.Goals as goal

pub returns : goal.returns
returns c = c.contains_key.ensures ∙ ap is_some (sym (found c.args.path.now c.args.made.now.entries))
