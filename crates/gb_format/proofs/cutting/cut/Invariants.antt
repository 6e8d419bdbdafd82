use Rattle.std.proofs.Common.{length}
use denote.Text.{Utf8}
use denote.Shadow.{shadow}
use Rattle.gb_format.specs.Shown.{shown}
use Rattle.gb_format.proofs.CutItems.{Left}
use Rattle.gb_format.proofs.cutting.cut.Given as goal

abbrev pub invariant-parts : goal.invariant-parts
invariant-parts l = record {
  text : shadow (Utf8 l.rest);
  left : Left l.fn.text (shown l.items.items) l.spacing l.rest;
}

abbrev pub decreases-parts : goal.decreases-parts
decreases-parts l = length l.rest
