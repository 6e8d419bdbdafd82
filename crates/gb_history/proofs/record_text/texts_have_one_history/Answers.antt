use Rattle.gb_history.proofs.OneText.{one_history}
use Rattle.gb_history.proofs.record_text.texts_have_one_history.Goals as goal

pub returns : goal.returns
returns c = one_history
