use Rattle.std.proofs.Common.{◌≡◌, ◌<◌, ℕ, false, take, length, Contains, MatchOption}
use Rattle.gb_graph.specs.Settled.{is_marked}
use Rattle.gb_graph.specs.Cycle.{IsLeastNumber}
use Rattle.gb_graph.proofs.cycle.least_of.Given as goal

abbrev pub invariant-loop-number : goal.invariant-loop-number
invariant-loop-number l = record {
  reported : MatchOption l.least
      ((number : ℕ) → Contains (take l.number-index l.numbers) number → is_marked l.marks number ≡ false)
      (λ number. IsLeastNumber l.tasks (take l.number-index l.numbers) l.marks number);
  known : MatchOption l.least (Unit {0}) (λ number. number < length l.tasks);
}
