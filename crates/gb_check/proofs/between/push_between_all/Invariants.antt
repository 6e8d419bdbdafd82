use Rattle.std.proofs.Common.{◌≡◌, ◌++◌, take}
use Rattle.std.specs.List.{flat_map}
use Rattle.gb_check.specs.Warnings.{between}
use Rattle.gb_check.proofs.between.push_between_all.Given as goal

abbrev pub invariant-loop-reader : goal.invariant-loop-reader
invariant-loop-reader l = l.found.items ≡ l.fn.found.items ++ flat_map (λ reader. flat_map (between l.sites l.guarded reader) l.tasks) (take l.reader-index l.tasks)
