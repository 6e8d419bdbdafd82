use Rattle.std.proofs.Common.{sym, subst}
use Rattle.gb_tree.specs.Rising.{IsRising}
use Rattle.gb_tree.specs.Tree.{Entries}
use Rattle.gb_tree.proofs.Sorting.{sorted_is, rising_in_order}
use Rattle.gb_tree.proofs.entries.sort.Goals as goal

pub returns-clause-sorted : goal.returns-clause-sorted
returns-clause-sorted c = sorted_is _ _ c.sort_unstable.ensures.permutation c.sort_unstable.ensures.sorted

pub returns-clause-rising : goal.returns-clause-rising
returns-clause-rising c = subst (λ (entries : Entries). IsRising entries) (sym (sorted_is _ _ c.sort_unstable.ensures.permutation c.sort_unstable.ensures.sorted)) (rising_in_order c.args.entries.now.items)
