use Rattle.std.proofs.Common.{◌≡◌, ◌++◌}
use Rattle.std.specs.List.{flat_map}
use Rattle.std.specs.VecDeque.Iter.{deque_iter_rest}
use Rattle.gb_declare.specs.Borrowed.{now_of}
use Rattle.gb_declare.proofs.sequence.push_arguments.Given as goal

abbrev pub invariant-loop-call : goal.invariant-loop-call
invariant-loop-call l =
    now_of l.to.items ++ flat_map (λ call. call.arguments) (now_of (deque_iter_rest l.call-iterator))
    ≡ now_of l.initial.to.items ++ flat_map (λ call. call.arguments) (now_of l.calls)
