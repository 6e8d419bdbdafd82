use Rattle.gb_markdown.proofs.Safety.{all_safe}
use Rattle.gb_markdown.proofs.laws.addresses_are_safe.Goals as goal

pub returns : goal.returns
returns c piece = all_safe piece
