use Rattle.std.proofs.Common.{◌+◌, length, drop, ap, sym, ◌∙◌, arith}
use Rattle.std.specs.Prelude.{filter_map}
use Rattle.gb_registry.specs.Said.{declared_property}
use Rattle.gb_declare.specs.Statements.{properties_made, named_from, unset_property}
use Rattle.gb_declare.proofs.PropertyLemmas.{taken, passed, made_on, named_on, same_nodes, same_table, same_entries}
use Rattle.gb_declare.proofs.property_nodes.add_properties.Goals as goal
use Rattle.gb_declare.proofs.property_nodes.add_properties.Goals.{in-Some+in_ok-add_property, in_default}

pub loop-statement-preserved : goal.loop-statement-preserved
loop-statement-preserved g c =
    let before = c.loop-statement.invariant in
    let ss = c.args.statements.now in
    let i = c.loop-statement.statement-index in
    let s = c.statement-item.result in
    let old = c.loop-statement.providers in
    let new = c.match-declared.providers in
    elim c.match-declared.branch [
      | in-Some+in_ok-add_property w ↦
          let name = w.in-Some.name.now in
          let run = w.in_ok-add_property.ensures.made in
          let is = taken ss i s c.loop-statement-test.true c.statement-item.is name w.in-Some.ensures in
          let nodes = same_nodes new w.add_property.new.providers w.providers-is ∙ run.made in
          let entries = same_entries c.match-declared.nodes w.add_property.new.nodes w.nodes-is ∙ w.in_ok-add_property.ensures.named in
          record {
            table = same_table new w.add_property.new.providers w.providers-is ∙ run.table ∙ before.table;
            made = before.made ∙ made_on c.args.project.now old.nodes new.nodes name (filter_map declared_property (drop i ss)) (filter_map declared_property (drop (i + 1) ss)) is nodes;
            named =
                before.named
                ∙ named_on old.nodes new.nodes (unset_property c.args.project.now name) c.loop-statement.nodes.entries c.match-declared.nodes.entries name
                (filter_map declared_property (drop i ss)) (filter_map declared_property (drop (i + 1) ss)) is nodes entries;
            grown = omega (arith, ap length (same_nodes new w.add_property.new.providers w.providers-is), run.grown, before.grown);
          }
      | in_default w ↦
          let is = passed ss i s c.loop-statement-test.true c.statement-item.is w.in_default.ensures in
          let nodes = same_nodes new old w.providers-is in
          record {
            table = same_table new old w.providers-is ∙ before.table;
            made = before.made ∙ ap (properties_made c.args.project.now old.nodes) is ∙ ap (λ n. properties_made c.args.project.now n (filter_map declared_property (drop (i + 1) ss))) (sym nodes);
            named =
                before.named ∙ ap (named_from (length old.nodes) c.loop-statement.nodes.entries) is
                ∙ ap (λ n. named_from (length n) c.loop-statement.nodes.entries (filter_map declared_property (drop (i + 1) ss))) (sym nodes)
                ∙ ap (λ e. named_from (length new.nodes) e (filter_map declared_property (drop (i + 1) ss))) (sym (same_entries c.match-declared.nodes c.loop-statement.nodes w.nodes-is));
            grown = omega (arith, ap length nodes, before.grown);
          }
    ]
