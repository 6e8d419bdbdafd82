use Rattle.std.proofs.Common.{◌≡◌, take}
use Rattle.std.specs.List.{flat_map}
use Rattle.gb_check.specs.Warnings.{guarded_by}
use Rattle.gb_check.proofs.guarded.guarded_in.Given as goal

abbrev pub invariant-loop-scripted : goal.invariant-loop-scripted
invariant-loop-scripted l = l.guarded.items ≡ flat_map (λ scripted. flat_map (guarded_by scripted.project) scripted.script) (take l.scripted-index l.scripts)
