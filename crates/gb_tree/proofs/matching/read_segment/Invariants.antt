use Rattle.std.proofs.Common.{◌≡◌, ◌++◌, false, length, take, drop}
use Rattle.std.specs.Option.{option_copied}
use Rattle.gb_core.specs.Place.{segments}
use Rattle.gb_tree.specs.Pattern.{is_double_star, segment_matches}
use Rattle.gb_tree.specs.Passes.{pass, fits_read, is_start}
use Rattle.gb_tree.proofs.matching.read_segment.Given as goal

abbrev pub invariant-loop-item : goal.invariant-loop-item
invariant-loop-item l =
    let whole = pass is_double_star (fits_read segment_matches (option_copied l.read)) (is_start (option_copied l.read)) false l.fn.states (segments l.pattern) in
    let left = pass is_double_star (fits_read segment_matches (option_copied l.read)) l.pass.entered l.pass.waiting (drop l.index l.states) (drop l.index (segments l.pattern)) in
    record {
      count : l.index ≡ length l.yielded;
      size : length l.states ≡ length l.fn.states;
      states : take l.index l.states ++ left.0 ≡ whole.0;
      ended : left.1 ≡ whole.1;
    }
