use Rattle.gb_tree.proofs.GoesOn.{none_exist}
use Rattle.gb_tree.proofs.matching.wild_matches.Goals as goal

pub characters_match-requires-else-pattern-lt-FEW_ITEMS-clause-none : goal.characters_match-requires-else-pattern-lt-FEW_ITEMS-clause-none
characters_match-requires-else-pattern-lt-FEW_ITEMS-clause-none c = none_exist 1025
