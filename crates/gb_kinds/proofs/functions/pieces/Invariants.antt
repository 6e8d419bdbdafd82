use Rattle.std.proofs.Common.{◌≡◌, ◌++◌, List, ℕ}
use Rattle.std.specs.Str.Iter.{split_has_more, split_text, split_pattern}
use Rattle.gb_kinds.specs.Functions.{pieces}
use Rattle.gb_kinds.proofs.Splitting.{IsLeft}
use Rattle.gb_kinds.proofs.functions.pieces.Given as goal

abbrev pub invariant-loop-piece : goal.invariant-loop-piece
invariant-loop-piece l = record {
  same : (split_pattern l.piece-iterator).now ≡ l.separator;
  left : (left : List (List ℕ)) × IsLeft l.text l.separator (split_has_more l.piece-iterator) (split_text l.piece-iterator) left × (l.texts ++ left ≡ pieces l.separator l.text);
}
