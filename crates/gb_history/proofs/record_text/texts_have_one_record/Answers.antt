use Rattle.gb_history.proofs.OneText.{one_text}
use Rattle.gb_history.proofs.record_text.texts_have_one_record.Goals as goal

pub returns : goal.returns
returns c = one_text
