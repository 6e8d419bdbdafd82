use Rattle.gb_lanes.proofs.LaneLemmas.{below_four}
use Rattle.gb_lanes.proofs.rounds.load_words.Goals as goal

pub returns : goal.returns
returns c = below_four _ c.load_word.ensures c.load_word-2.ensures c.load_word-3.ensures c.load_word-4.ensures
