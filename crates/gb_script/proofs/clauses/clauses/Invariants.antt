use Rattle.std.proofs.Common.{◌≡◌, ◌+◌, ◌-◌, ◌≤◌, length}
use Rattle.gb_script.specs.Reading.{many_at, no_matter}
use Rattle.gb_script.specs.Readers.{in_block, clause_at}
use Rattle.gb_script.proofs.Loop.{with_prefix}
use Rattle.gb_script.proofs.clauses.clauses.Given as goal

abbrev pub invariant-clauses : goal.invariant-clauses
invariant-clauses l = record {
  so_far : with_prefix l.clauses.items (many_at in_block no_matter (λ s. clause_at l.room) (length l.tokens - length l.clauses.items) tt l.rest) ≡ many_at in_block no_matter (λ s. clause_at l.room) (length l.tokens) tt l.tokens;
  enough : length l.rest + length l.clauses.items ≤ length l.tokens;
}

abbrev pub decreases-clauses : goal.decreases-clauses
decreases-clauses l = length l.rest
