use Rattle.gb_run.proofs.CutEmptying.{cut_emptyings_invent_nothing as law}
use Rattle.gb_run.proofs.laws.cut_emptyings_invent_nothing.Goals as goal

pub returns : goal.returns
returns c = λ returned. law c.G.Grounds.setting
