use Rattle.std.proofs.Common.{◌≡◌, take}
use Rattle.std.specs.List.{flat_map}
use Rattle.gb_action.specs.Files.{tree_at}
use Rattle.gb_action.specs.Shapes.{source}
use Rattle.gb_kinds.specs.ByFile.{writes_for}
use Rattle.gb_kinds.proofs.by_file.changed_writes.Given as goal

abbrev pub invariant-loop-change : goal.invariant-loop-change
invariant-loop-change g l = l.writes ≡ flat_map (writes_for (g.E.FileMaker.edited l.edit) l.request.outputs (tree_at l.request.files source)) (take l.change-index l.changes)
