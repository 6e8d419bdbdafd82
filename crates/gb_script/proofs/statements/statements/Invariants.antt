use Rattle.std.proofs.Common.{◌≡◌, ◌+◌, ◌-◌, ◌≤◌, length}
use Rattle.gb_script.specs.Reading.{is_any, many_at, no_matter}
use Rattle.gb_script.specs.Readers.{statement_at}
use Rattle.gb_script.proofs.Loop.{with_prefix}
use Rattle.gb_script.proofs.statements.statements.Given as goal

abbrev pub invariant-statements : goal.invariant-statements
invariant-statements l = record {
  so_far : with_prefix l.statements.items (many_at is_any no_matter (λ s. statement_at 64) (length l.tokens - length l.statements.items) tt l.rest) ≡ many_at is_any no_matter (λ s. statement_at 64) (length l.tokens) tt l.tokens;
  enough : length l.rest + length l.statements.items ≤ length l.tokens;
}

abbrev pub decreases-statements : goal.decreases-statements
decreases-statements l = length l.rest
