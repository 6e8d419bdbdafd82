use Rattle.std.proofs.Common.{◌≡◌, ◌≤◌, length, take}
use Rattle.std.specs.Str.{IsCharBoundary}
use Rattle.gb_format.specs.Layout.{trimmed}
use Rattle.gb_format.proofs.cutting.trimmed_len.Given as goal

abbrev pub invariant-blanks : goal.invariant-blanks
invariant-blanks l = record {
  same : trimmed (take l.len l.bytes) ≡ trimmed l.bytes;
  within : l.len ≤ length l.bytes;
  boundary : IsCharBoundary l.bytes l.len;
}

abbrev pub decreases-blanks : goal.decreases-blanks
decreases-blanks l = l.len
