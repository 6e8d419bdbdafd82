use Rattle.std.proofs.Common.{◌≡◌}
use Rattle.gb_provider.specs.Search.{IsSearch, known, left}
use Rattle.gb_provider.proofs.PastLemmas.{ArePast}
use Rattle.gb_provider.proofs.work_list.evaluate_along.Given as goal

abbrev pub invariant-loop-at : goal.invariant-loop-at
invariant-loop-at g l = record {
  search : IsSearch (g.E.Entries.rules l.initial.entries) l.entry l.states.items l.path.items;
  past : ArePast (g.E.Entries.rules l.initial.entries) (known l.states.items) l.path.items l.pasts.items;
  kept : l.entries ≡ l.initial.entries;
}

abbrev pub decreases-loop-at : goal.decreases-loop-at
decreases-loop-at g l = left l.states.items
