use Rattle.std.proofs.Common.{◌≡◌, ◌++◌, take}
use Rattle.std.specs.List.{flat_map}
use Rattle.gb_check.specs.Warnings.{guarded_by}
use Rattle.gb_check.proofs.guarded.push_guarded.Given as goal

abbrev pub invariant-loop-statement : goal.invariant-loop-statement
invariant-loop-statement l = l.guarded.items ≡ l.fn.guarded.items ++ flat_map (guarded_by l.project) (take l.statement-index l.statements)
