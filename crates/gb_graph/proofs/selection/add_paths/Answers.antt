use Rattle.std.proofs.Common.{◌||◌, sym, ap, ◌∙◌}
use Rattle.std.specs.BTreeSet.{contains}
use Rattle.gb_core.specs.Lists.{byte_order}
use Rattle.gb_plan.specs.Task.{has_path}
use Rattle.gb_graph.proofs.Selections.{set_more, or_none}
use Rattle.gb_graph.proofs.selection.add_paths.Goals as goal

pub loop-path-preserved : goal.loop-path-preserved
loop-path-preserved c = λ p.
    set_more (contains byte_order c.loop-path.set) (contains byte_order c.insert.new.self) c.in_ok-copy.field-0 c.in-Some.path.now c.next.new.self c.loop-path.path-iterator c.in_ok-copy.ensures
    c.in-Some.ensures.steps c.in_ok-insert.ensures.updates.0 p
    ∙ c.loop-path.invariant p

pub returns : goal.returns
returns c = λ p.
    sym (or_none (contains byte_order c.loop-path.set p)) ∙ (ap (λ ps. contains byte_order c.loop-path.set p || has_path ps p) (sym c.in-None.ensures.steps.0) ∙ c.loop-path.invariant p)
