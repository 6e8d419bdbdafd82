use Rattle.std.proofs.Common.{◌∙◌}
use Rattle.gb_kinds.proofs.WordFiles.{is_found}
use Rattle.gb_kinds.proofs.remade.is_made.Goals as goal

pub returns : goal.returns
returns c = c.contains_key.ensures ∙ is_found c.args.path.now c.args.made.now.entries
