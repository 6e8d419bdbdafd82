use Rattle.std.proofs.Common.{◌≡◌, ◌++◌, take}
use Rattle.std.specs.List.{flat_map}
use Rattle.gb_check.specs.Warnings.{between}
use Rattle.gb_check.proofs.between.push_reader.Given as goal

abbrev pub invariant-loop-maker : goal.invariant-loop-maker
invariant-loop-maker l = l.found.items ≡ l.fn.found.items ++ flat_map (between l.sites l.guarded l.reader) (take l.maker-index l.tasks)
