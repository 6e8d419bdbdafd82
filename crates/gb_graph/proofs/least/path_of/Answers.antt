use Rattle.std.proofs.Common.{[], sym}
use Rattle.std.proofs.lemmas.List.{get_or-map}
use Rattle.gb_plan.specs.declared.plan.Planned.{Planned}
use Rattle.gb_graph.proofs.least.path_of.Goals as goal

pub returns : goal.returns
returns c = sym (get_or-map (λ (z : Planned). z.task.path) c.args.tasks.now c.args.number c.index-tasks-number.result [] c.requires)
