use Rattle.std.proofs.Common.{◌≡◌, ◌+◌, ◌≤◌, ◌++◌, length, map}
use denote.Text.{Utf8}
use denote.Shadow.{shadow}
use Rattle.gb_script.specs.Scanning.{scan}
use Rattle.gb_script.proofs.lexing.lex.Given as goal

abbrev pub invariant-parts : goal.invariant-parts
invariant-parts l = record {
  text : shadow (Utf8 l.rest);
  tokens : l.tokens.items ++ map (λ p. p.0) (scan l.line l.rest) ≡ map (λ p. p.0) (scan 1 l.text);
  lines : l.lines.items ++ map (λ p. p.1) (scan l.line l.rest) ≡ map (λ p. p.1) (scan 1 l.text);
  low : l.line + length l.rest ≤ 1 + length l.text;
}

abbrev pub decreases-parts : goal.decreases-parts
decreases-parts l = length l.rest
