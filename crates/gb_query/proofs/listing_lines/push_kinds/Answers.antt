use Rattle.std.proofs.Common.{◌++◌, List, append-nil, string_bytes, sym, ap, ◌∙◌}
use Rattle.std.specs.List.{flat_map}
use Rattle.std.specs.VecDeque.Iter.{deque_iter_rest}
use Rattle.gb_plan.specs.declared.task.Action.{Action}
use Rattle.gb_query.specs.Listing.{kind_text}
use Rattle.gb_query.proofs.Listed.{none_left, step}
use Rattle.gb_query.proofs.listing_lines.push_kinds.Goals as goal

pub loop-action-preserved : goal.loop-action-preserved
loop-action-preserved c =
    let before = string_bytes c.loop-action.text in
    step before (kind_text c.in-Some.action.now) (flat_map kind_text (deque_iter_rest c.next.new.self)) (string_bytes c.push_kind.new.text) _
    c.in_ok-push_kind.ensures
    (ap (λ (rest : List Action). before ++ flat_map kind_text rest) (sym c.in-Some.ensures.steps) ∙ c.loop-action.invariant)

pub returns : goal.returns
returns c =
    let done = string_bytes c.loop-action.text in
    let nothing = none_left (deque_iter_rest c.loop-action.action-iterator) c.in-None.ensures.steps.0 in
    sym (append-nil done) ∙ ap (λ (rest : List Action). done ++ flat_map kind_text rest) (sym nothing) ∙ c.loop-action.invariant
