use Rattle.std.proofs.Common.{◌≡◌, take}
use Rattle.gb_check.proofs.whole_plan.words_of.Given as goal

abbrev pub invariant-loop-path : goal.invariant-loop-path
invariant-loop-path l = l.words.items ≡ take l.path-index l.names
