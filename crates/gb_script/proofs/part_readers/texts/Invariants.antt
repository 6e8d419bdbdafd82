use Rattle.std.proofs.Common.{◌≡◌, ◌+◌, ◌-◌, ◌<◌, ◌≤◌, length}
use Rattle.gb_script.specs.declared.token.Sign.TheVariants.{Comma}
use Rattle.gb_script.specs.Reading.{is_sign, past_at, text_at, many_at, list_at, no_matter}
use Rattle.gb_script.proofs.Loop.{with_prefix}
use Rattle.gb_script.proofs.part_readers.texts.Given as goal

abbrev pub invariant-others : goal.invariant-others
invariant-others l = record {
  so_far : with_prefix l.texts (many_at (is_sign Comma) no_matter (λ s. past_at (is_sign Comma) text_at) (length l.initial.rest + 1 - length l.texts) tt l.rest) ≡ list_at text_at l.tokens;
  shorter : length l.rest < length l.tokens;
  enough : length l.rest + length l.texts ≤ length l.initial.rest + 1;
}

abbrev pub decreases-others : goal.decreases-others
decreases-others l = length l.rest
