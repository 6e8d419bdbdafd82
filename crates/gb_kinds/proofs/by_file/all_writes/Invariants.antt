use Rattle.std.proofs.Common.{◌≡◌, take}
use Rattle.gb_kinds.specs.ByFile.{by_file}
use Rattle.gb_kinds.proofs.by_file.all_writes.Given as goal

abbrev pub invariant-loop-path : goal.invariant-loop-path
invariant-loop-path g l = l.writes ≡ by_file (g.E.FileMaker.edited l.edit) (take l.path-index l.files)
