use Rattle.std.proofs.Common.{◌∙◌}
use Rattle.gb_project.proofs.OutputLemmas.{copied_run}
use Rattle.gb_project.proofs.outputs.declare_output.Goals as goal

pub returns : goal.returns
returns g c =
    copied_run c.args.providers.now c.declare_output.new.self c.args.path.now c.in_ok-copy.field-0 c.args.name.now c.in_ok-output.output c.args.node.number c.in_ok-declare_output.field-0
    c.in_ok-copy.ensures (c.in_ok-output.ensures ∙ c.as_str.ensures.text) c.in_ok-declare_output.ensures.ok
