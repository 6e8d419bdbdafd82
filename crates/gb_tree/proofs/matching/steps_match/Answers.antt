use Rattle.gb_tree.proofs.GoesOn.{none_exist}
use Rattle.gb_tree.proofs.matching.steps_match.Goals as goal

pub segments_match-requires-else-pattern-lt-FEW_ITEMS-clause-none : goal.segments_match-requires-else-pattern-lt-FEW_ITEMS-clause-none
segments_match-requires-else-pattern-lt-FEW_ITEMS-clause-none c = none_exist 1025
