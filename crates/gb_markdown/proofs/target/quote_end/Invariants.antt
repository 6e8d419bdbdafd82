use Rattle.std.proofs.Common.{◌≡◌, false, drop}
use Rattle.gb_markdown.specs.Targets.{quote_end}
use Rattle.gb_markdown.proofs.target.quote_end.Given as goal

abbrev pub invariant-loop-index : goal.invariant-loop-index
invariant-loop-index l =
    quote_end l.sign l.hidden l.index (drop l.index l.line) ≡ quote_end l.sign false 0 l.line
