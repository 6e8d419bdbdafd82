use Rattle.std.proofs.Common.{◌≡◌, drop}
use Rattle.gb_with.specs.Renamed.{following}
use Rattle.gb_with.specs.TryKinds.{all_tried}
use Rattle.gb_with.proofs.try_by_file.all_tried.Given as goal

abbrev pub invariant-loop-path : goal.invariant-loop-path
invariant-loop-path g l =
    following l.made.items (all_tried (g.K.TryFileKind.tried l.maker) (drop l.path-index l.files))
    ≡ all_tried (g.K.TryFileKind.tried l.maker) l.files
