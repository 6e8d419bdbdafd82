use Rattle.std.proofs.Common.{◌≡◌, ◌++◌, ◌≤◌, length}
use Rattle.memchr.specs.Find.{matches}
use Rattle.bstr.specs.Text.{MatchList, replaced_at}
use Rattle.gb_kinds.proofs.replaced.replaced.Given as goal

abbrev pub invariant-loop-at : goal.invariant-loop-at
invariant-loop-at l = (l.last ≤ length l.bytes) × MatchList l.bytes (length l.sign) l.last l.at-iterator
    × (replaced_at l.bytes (length l.sign) l.value 0 (matches l.bytes l.sign 0)
    ≡ l.made.items ++ replaced_at l.bytes (length l.sign) l.value l.last l.at-iterator)
