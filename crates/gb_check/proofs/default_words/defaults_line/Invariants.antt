use Rattle.std.proofs.Common.{◌≡◌, drop}
use Rattle.gb_check.specs.DefaultWords.{defaults_line}
use Rattle.gb_check.proofs.default_words.defaults_line.Given as goal

abbrev pub invariant-loop-statement : goal.invariant-loop-statement
invariant-loop-statement l = defaults_line l.last (drop l.statement-index l.statements) l.rest ≡ defaults_line 1 l.statements l.lines
