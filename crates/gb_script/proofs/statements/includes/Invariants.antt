use Rattle.std.proofs.Common.{◌≡◌, ◌+◌, ◌-◌, ◌≤◌, length}
use Rattle.gb_script.specs.Reading.{is_any, many_at, no_matter}
use Rattle.gb_script.specs.Readers.{include_at}
use Rattle.gb_script.proofs.Loop.{with_prefix}
use Rattle.gb_script.proofs.statements.includes.Given as goal

abbrev pub invariant-includes : goal.invariant-includes
invariant-includes l = record {
  so_far : with_prefix l.includes.items (many_at is_any no_matter (λ s. include_at) (length l.tokens - length l.includes.items) tt l.rest) ≡ many_at is_any no_matter (λ s. include_at) (length l.tokens) tt l.tokens;
  enough : length l.rest + length l.includes.items ≤ length l.tokens;
}

abbrev pub decreases-includes : goal.decreases-includes
decreases-includes l = length l.rest
