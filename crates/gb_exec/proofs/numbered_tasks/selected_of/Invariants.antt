use Rattle.std.proofs.Common.{◌≡◌, map, take}
use Rattle.gb_exec.proofs.numbered_tasks.selected_of.Given as goal

abbrev pub invariant-loop-planned : goal.invariant-loop-planned
invariant-loop-planned l = l.marks.items ≡ map (λ planned. planned.is_selected) (take l.planned-index l.plan)
