use Rattle.std.proofs.Common.{◌≡◌, ◌++◌, drop, map}
use Rattle.gb_declare.specs.Borrowed.{now_of}
use Rattle.gb_declare.proofs.sequence.push_conditions.Given as goal

abbrev pub invariant-loop-condition : goal.invariant-loop-condition
invariant-loop-condition l =
    now_of l.to.items ++ map (λ condition. condition.value) (now_of (drop l.condition-index l.conditions))
    ≡ now_of l.initial.to.items ++ map (λ condition. condition.value) (now_of l.conditions)
