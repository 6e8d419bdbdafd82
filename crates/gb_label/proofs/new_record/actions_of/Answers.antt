use Rattle.std.proofs.Common.{◌∷◌, [], ◌++◌, List, append_assoc, append-nil, sym, ap, ◌∙◌}
use Rattle.std.specs.VecDeque.Iter.{deque_iter_rest}
use Rattle.gb_plan.specs.declared.task.Action.{Action}
use Rattle.gb_label.proofs.new_record.actions_of.Goals as goal
use Rattle.gb_run.proofs.Endings.{none_left}

pub loop-action-preserved : goal.loop-action-preserved
loop-action-preserved c =
    let left : List Action = deque_iter_rest c.next.new.self in
    let so_far : List Action = c.loop-action.copies.items in
    ap (λ (items : List Action). items ++ left) (c.in_ok-push.ensures.items ∙ ap (λ (action : Action). so_far ++ action ∷ []) c.in_ok-copied.ensures)
    ∙ append_assoc so_far (c.in-Some.action.now ∷ []) left
    ∙ ap (λ (rest : List Action). so_far ++ rest) (sym c.in-Some.ensures.steps)
    ∙ c.loop-action.invariant

pub returns : goal.returns
returns c =
    let nothing = none_left (deque_iter_rest c.loop-action.action-iterator) c.in-None.ensures.steps.0 in
    sym (append-nil c.loop-action.copies.items) ∙ ap (λ (rest : List Action). c.loop-action.copies.items ++ rest) (sym nothing) ∙ c.loop-action.invariant
