use Rattle.std.proofs.Common.{◌≡◌, ◌<◌, None, drop}
use Rattle.std.specs.Prelude.{IfSome, length}
use Rattle.gb_markdown.specs.Inline.{last_fit}
use Rattle.gb_markdown.proofs.stress.last_fit.Given as goal

abbrev pub invariant-loop-index : goal.invariant-loop-index
invariant-loop-index l = record {
  value : last_fit l.second l.best l.index (drop l.index l.stack) ≡ last_fit l.second None 0 l.stack;
  within : IfSome l.best (λ found. found.0 < length l.stack);
}
