use Rattle.std.proofs.Common.{ap, map, refl, ◌∙◌}
use Rattle.gb_ask_command.specs.Graph.{path_at}
use Rattle.gb_ask_command.proofs.Numbers.{scheduled_numbers}
use Rattle.gb_ask_command.proofs.nodes.node_of.Goals as goal

pub returns : goal.returns
returns c = λ plan predict_build.
    let numbers = c.args.numbers.now in
    let task = c.args.planned.now.task in
    record {
      name = c.in_ok-name.ensures.ok ∙ c.as_str.ensures.text;
      tint = refl;
      needs = ap (map (path_at plan)) c.in_ok-needs.ensures ∙ scheduled_numbers plan numbers predict_build task.needs;
      runs_after = ap (map (path_at plan)) c.in_ok-runs_after.ensures ∙ scheduled_numbers plan numbers predict_build task.must_run_after;
      finalizers = ap (map (path_at plan)) c.in_ok-finalizers.ensures ∙ scheduled_numbers plan numbers predict_build task.finalizers;
    }
