use Rattle.std.proofs.Common.{◌≡◌, ◌≤◌, ◌==◌, drop, length}
use Rattle.gb_markdown.specs.Runs.{end_of}
use Rattle.gb_markdown.proofs.line_parsing.without_signs.Given as goal

abbrev pub invariant-loop-index : goal.invariant-loop-index
invariant-loop-index l = record {
  within : l.end ≤ length l.words;
  value :
      end_of (λ b. b == l.sign) l.end l.index (drop l.index l.words)
      ≡ end_of (λ b. b == l.sign) 0 0 l.words;
}
