use Rattle.std.proofs.Common.{◌≡◌, ◌+◌, ◌-◌, ◌≤◌, length}
use Rattle.gb_script.specs.Reading.{many_at, no_matter}
use Rattle.gb_script.specs.Readers.{in_block}
use Rattle.gb_script.specs.Reporting.{line_left}
use Rattle.gb_script.specs.LineReaders.{clause_line_at}
use Rattle.gb_script.proofs.Loop.{with_prefix}
use Rattle.gb_script.proofs.lines.clause_lines.Given as goal

abbrev pub invariant-clauses : goal.invariant-clauses
invariant-clauses l = record {
  so_far : with_prefix l.lines.items (many_at in_block no_matter (λ s. clause_line_at (line_left l.text l.lexed.lines.items) l.room) (length l.tokens - length l.lines.items) tt l.rest) ≡ many_at in_block no_matter (λ s. clause_line_at (line_left l.text l.lexed.lines.items) l.room) (length l.tokens) tt l.tokens;
  enough : length l.rest + length l.lines.items ≤ length l.tokens;
}

abbrev pub decreases-clauses : goal.decreases-clauses
decreases-clauses l = length l.rest
