use Rattle.std.proofs.Common.{◌≡◌, ◌+◌, ◌-◌, ◌≤◌, length}
use Rattle.gb_script.specs.Reading.{is_any, many_at, no_matter}
use Rattle.gb_script.specs.Reporting.{line_left}
use Rattle.gb_script.specs.LineReaders.{statement_lines_at}
use Rattle.gb_script.proofs.Loop.{with_prefix}
use Rattle.gb_script.proofs.lines.script_lines.Given as goal

abbrev pub invariant-statements : goal.invariant-statements
invariant-statements l = record {
  so_far : with_prefix l.lines.items (many_at is_any no_matter (λ s. statement_lines_at (line_left l.text l.lexed.lines.items) 64) (length l.lexed.tokens.items - length l.lines.items) tt l.rest) ≡ many_at is_any no_matter (λ s. statement_lines_at (line_left l.text l.lexed.lines.items) 64) (length l.lexed.tokens.items) tt l.lexed.tokens.items;
  enough : length l.rest + length l.lines.items ≤ length l.lexed.tokens.items;
}

abbrev pub decreases-statements : goal.decreases-statements
decreases-statements l = length l.rest
