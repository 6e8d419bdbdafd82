use Rattle.std.proofs.Common.{◌≡◌, false, drop}
use Rattle.gb_markdown.specs.Targets.{angle_end}
use Rattle.gb_markdown.proofs.target.angle_end.Given as goal

abbrev pub invariant-loop-index : goal.invariant-loop-index
invariant-loop-index l = angle_end l.hidden l.index (drop l.index l.line) ≡ angle_end false 0 l.line
