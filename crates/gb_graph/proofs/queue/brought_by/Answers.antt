use Rattle.std.proofs.Common.{[], sym, ap, ◌∙◌}
use Rattle.gb_core.specs.Tasks.{with_tasks}
use Rattle.gb_graph.proofs.Queues.{with_append}
use Rattle.gb_graph.proofs.queue.brought_by.Goals as goal

pub returns : goal.returns
returns c =
    let task = c.args.task.now in
    c.in_ok-extend-2.ensures.ok ∙ (ap (λ ts. with_tasks ts task.finalizers) (c.in_ok-extend.ensures.ok ∙ ap (λ ts. with_tasks ts task.needs) c.new-paths.ensures) ∙ sym (with_append [] task.needs task.finalizers))
