use Rattle.std.proofs.Common.{◌≡◌, ◌++◌, false, length, take, drop}
use Rattle.std.specs.Str.{chars}
use Rattle.gb_tree.specs.Pattern.{is_star, represents}
use Rattle.gb_tree.specs.Passes.{pass, fits_read, is_start}
use Rattle.gb_tree.proofs.matching.read_character.Given as goal

abbrev pub invariant-loop-item : goal.invariant-loop-item
invariant-loop-item l =
    let whole = pass is_star (fits_read represents l.read) (is_start l.read) false l.fn.states (chars l.pattern) in
    let left = pass is_star (fits_read represents l.read) l.pass.entered l.pass.waiting (drop l.index l.states) (drop l.index (chars l.pattern)) in
    record {
      count : l.index ≡ length l.yielded;
      size : length l.states ≡ length l.fn.states;
      states : take l.index l.states ++ left.0 ≡ whole.0;
      ended : left.1 ≡ whole.1;
    }
