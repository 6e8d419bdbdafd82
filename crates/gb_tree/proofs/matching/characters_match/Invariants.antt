use Rattle.std.proofs.Common.{◌≡◌, [], length, drop}
use Rattle.std.specs.Str.{chars}
use Rattle.gb_tree.specs.Pattern.{is_star, represents, wild_matches}
use Rattle.gb_tree.specs.Passes.{goes_on}
use Rattle.gb_tree.proofs.matching.characters_match.Given as goal

abbrev pub invariant-loop-character : goal.invariant-loop-character
invariant-loop-character l = record {
  whole : goes_on is_star represents l.states (chars l.pattern) l.matched (drop (length l.yielded) (chars l.text)) ≡ wild_matches l.pattern l.text;
  size : length l.states ≡ length l.fn.states;
  ended : goes_on is_star represents l.states (chars l.pattern) l.matched [] ≡ l.matched;
}
