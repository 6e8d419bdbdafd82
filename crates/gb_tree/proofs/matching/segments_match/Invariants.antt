use Rattle.std.proofs.Common.{◌≡◌, [], length, drop}
use Rattle.gb_core.specs.Place.{segments}
use Rattle.gb_tree.specs.Pattern.{is_double_star, segment_matches, path_matches}
use Rattle.gb_tree.specs.Passes.{goes_on}
use Rattle.gb_tree.proofs.matching.segments_match.Given as goal

abbrev pub invariant-loop-segment : goal.invariant-loop-segment
invariant-loop-segment l = record {
  whole : goes_on is_double_star segment_matches l.states (segments l.pattern) l.matched (drop (length l.yielded) (segments l.path)) ≡ path_matches l.pattern l.path;
  size : length l.states ≡ length l.fn.states;
  ended : goes_on is_double_star segment_matches l.states (segments l.pattern) l.matched [] ≡ l.matched;
}
