use Rattle.std.proofs.Common.{arith, ap, map, length, ◌∙◌}
use Rattle.gb_declare.specs.Joined.{Made, Named}
use Rattle.gb_project.proofs.OutputLemmas.{outputs_on, within_on}
use Rattle.gb_project.proofs.outputs.declare_outputs.Goals as goal

pub loop-name-preserved : goal.loop-name-preserved
loop-name-preserved g c =
    let before = c.loop-name.invariant in
    let run = c.in_ok-declare_output.ensures in
    let made = c.in-Some.field-0-1.now in
    let output : Named Made = (c.in-Some.name.now, (made.0, made.1.now)) in
    let cut = c.in-Some-split_first.ensures.cases.0 in
    let node = c.in-Some-split_first.node.now in
    let rest = c.loop-name.rest.now in
    let others = c.in-Some-split_first.others.now in
    record {
      table = run.table ∙ before.table;
      made =
          before.made
          ∙ outputs_on c.args.path.now c.loop-name.providers.nodes c.declare_output.new.providers.nodes (map (λ e. (e.0, (e.1.0, e.1.1.now))) c.loop-name.name-iterator) (map (λ e. (e.0, (e.1.0, e.1.1.now))) c.next.new.self) output
          rest others node (ap (map (λ e. (e.0, (e.1.0, e.1.1.now)))) c.in-Some.ensures.steps) cut run.made;
      within = within_on (length c.loop-name.providers.nodes) (length c.declare_output.new.providers.nodes) rest others node cut run.grown before.within;
      grown = omega (arith, before.grown, run.grown);
    }
