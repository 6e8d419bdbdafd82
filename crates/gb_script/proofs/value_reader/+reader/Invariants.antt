use Rattle.std.proofs.Common.{◌≡◌, ◌+◌, ◌-◌, ◌*◌, ◌<◌, ◌≤◌, length, map}
use Rattle.gb_script.specs.declared.token.Sign.TheVariants.{Comma, Dot}
use Rattle.gb_script.specs.View.{link_of}
use Rattle.gb_script.specs.Reading.{is_sign, no_matter, past_at, many_at, list_at}
use Rattle.gb_script.specs.Readers.{link_at, inside_at, tree_at}
use Rattle.gb_script.proofs.Loop.{with_prefix}
use Rattle.gb_script.proofs.value_reader.+reader.Given as goal

abbrev pub decreases-elements : goal.decreases-elements
decreases-elements l = 8 * l.room + 7

abbrev pub decreases-expressions : goal.decreases-expressions
decreases-expressions l = 8 * l.room + 6

abbrev pub decreases-further_expression : goal.decreases-further_expression
decreases-further_expression l = 8 * l.room + 5

abbrev pub decreases-expression : goal.decreases-expression
decreases-expression l = 8 * l.room + 4

abbrev pub decreases-source : goal.decreases-source
decreases-source l = 8 * l.room + 3

abbrev pub decreases-steps : goal.decreases-steps
decreases-steps l = 8 * l.room + 3

abbrev pub decreases-list : goal.decreases-list
decreases-list l = 8 * l.room + 2

abbrev pub decreases-step : goal.decreases-step
decreases-step l = 8 * l.room + 2

abbrev pub decreases-step_of : goal.decreases-step_of
decreases-step_of l = 8 * l.room + 1

abbrev pub decreases-zip : goal.decreases-zip
decreases-zip l = 8 * l.room

abbrev pub decreases-or_else : goal.decreases-or_else
decreases-or_else l = 8 * l.room

abbrev pub invariant-expressions-others : goal.invariant-expressions-others
invariant-expressions-others l = record {
  so_far : with_prefix l.expressions.items (many_at (is_sign Comma) no_matter (λ s. past_at (is_sign Comma) (tree_at l.room)) (length l.initial.rest + 1 - length l.expressions.items) tt l.rest) ≡ list_at (tree_at l.room) l.tokens;
  shorter : length l.rest < length l.tokens;
  enough : length l.rest + length l.expressions.items ≤ length l.initial.rest + 1;
}

abbrev pub decreases-expressions-others : goal.decreases-expressions-others
decreases-expressions-others l = length l.rest

abbrev pub invariant-steps-steps : goal.invariant-steps-steps
invariant-steps-steps l = record {
  so_far : with_prefix (map link_of l.steps.items) (many_at (is_sign Dot) no_matter (λ s. link_at l.room (inside_at l.room)) (64 - length l.steps.items) tt l.rest) ≡ many_at (is_sign Dot) no_matter (λ s. link_at l.room (inside_at l.room)) 64 tt l.tokens;
  shorter : length l.rest ≤ length l.tokens;
  limit : length l.steps.items ≤ 64;
}

abbrev pub decreases-steps-steps : goal.decreases-steps-steps
decreases-steps-steps l = length l.rest
