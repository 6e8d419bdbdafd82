use Rattle.std.proofs.Common.{ap, ◌∙◌}
use Rattle.gb_tree.specs.Property.{held}
use Rattle.gb_tree.proofs.entries.append_held.Goals as goal

pub returns : goal.returns
returns c = c.truncate.ensures.items ∙ ap held c.in_ok-append.ensures.items
