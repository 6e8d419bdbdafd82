use Rattle.gb_markdown.proofs.Signs.{less_counted, greater_counted, quotes_counted}
use Rattle.gb_markdown.proofs.laws.texts_are_escaped.Goals as goal

pub returns : goal.returns
returns c pieces = (less_counted pieces, greater_counted pieces, quotes_counted pieces)
