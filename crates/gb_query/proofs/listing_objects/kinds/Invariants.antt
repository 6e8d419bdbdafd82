use Rattle.std.proofs.Common.{◌≡◌, ◌++◌, map}
use Rattle.std.specs.VecDeque.Iter.{deque_iter_rest}
use Rattle.serde_json.specs.Data.{string}
use Rattle.serde_json.specs.View.{view}
use Rattle.gb_query.proofs.listing_objects.kinds.Given as goal

abbrev pub invariant-loop-action : goal.invariant-loop-action
invariant-loop-action l = map view l.values.items ++ map (λ action. string action.kind) (deque_iter_rest l.action-iterator) ≡ map (λ action. string action.kind) l.task.actions
