use Rattle.std.proofs.Common.{◌≡◌}
use Rattle.std.specs.List.{list_any}
use Rattle.std.specs.FinMap.Entries.{find}
use Rattle.std.specs.VecDeque.Iter.{deque_iter_rest}
use Rattle.gb_core.specs.Lists.{byte_order}
use Rattle.gb_declare.specs.Shapes.{is_unfit}
use Rattle.gb_declare.proofs.fitting.is_any_unfit.Given as goal

abbrev pub invariant-loop-call : goal.invariant-loop-call
invariant-loop-call g l =
    list_any (λ call. is_unfit g.A.Actions.meanings l.files l.outputs (find byte_order call.now.name l.table)) l.calls
    ≡ list_any (λ call. is_unfit g.A.Actions.meanings l.files l.outputs (find byte_order call.now.name l.table)) (deque_iter_rest l.call-iterator)
