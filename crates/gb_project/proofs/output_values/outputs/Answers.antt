use Rattle.std.proofs.Common.{◌<◌, [], ◌∷◌, Ok, length, map, sym, ap, subst, ◌∙◌, arith}
use Rattle.std.proofs.lemmas.Result.{err_from_is_err_and}
use Rattle.gb_project.proofs.ReportLemmas.{passed_on}
use Rattle.gb_project.specs.Over.{IsOver, known_names}
use Rattle.gb_registry.specs.Tables.{tables_of}
use Rattle.gb_declare.specs.Borrowed.{outputs_in}
use Rattle.gb_declare.specs.Joined.{Made, Named}
use Rattle.gb_declare.specs.Realised.{each_of, output_under}
use Rattle.gb_declare.specs.Whole.{spots, whole}
use Rattle.gb_provider.specs.declared.expression.Node.{Node}
use Rattle.gb_project.specs.Rows.{AreWithin}
use Rattle.gb_project.proofs.RowValueLemmas.{fails_here, goes_on, others_of_all, represents}
use Rattle.gb_project.proofs.WalkLemmas.{walk_ends}
use Rattle.gb_project.proofs.output_values.outputs.Goals as goal

pub returns-in_err-output-clause-reported : goal.returns-in_err-output-clause-reported
returns-in_err-output-clause-reported g c = λ source number over at is are.
    let context = c.args.context.now in
    let tables = tables_of g.T.Transforms.meanings g.A.Actions.meanings context.tables.now in
    let f = output_under tables source at (spots tables source) (whole tables source) in
    let name = c.in-Some.name.now in
    let tree = c.in-Some.made.now.1.now in
    let x : Named Made = (name, (c.in-Some.made.now.0, tree)) in
    let next = ap (map (λ e. (e.0, (e.1.0, e.1.1.now)))) c.in-Some.ensures.steps in
    let left = c.loop-name.invariant.reported source number over at is are in
    let there = subst (λ p. IsOver tables source (known_names context.projects.now context.tasks.now) context.faults.now p.nodes number) (sym c.loop-name.invariant.kept) over in
    let same = represents tables source number at.project (λ (output : Named Made). output.1.1) f (outputs_in c.args.outputs.now) c.loop-name.found.items c.loop-name.rest.now c.in-Some-split_first.others.now c.in-Some-split_first.node.now (map (λ e. (e.0, (e.1.0, e.1.1.now))) c.loop-name.name-iterator) (map (λ e. (e.0, (e.1.0, e.1.1.now))) c.next.new.self) x c.in-Some-split_first.ensures.cases.0 next left in
    let fault = c.in_err-output.field-0.0 in
    let p = err_from_is_err_and c.from_residual.result c.from_residual.ensures.1 in
    passed_on tables source (each_of f (outputs_in c.args.outputs.now)) c.from_residual.result p.0 fault p.1 p.2
    (fails_here tables source number at.project (λ (output : Named Made). output.1.1) f (outputs_in c.args.outputs.now) c.loop-name.found.items c.loop-name.rest.now c.in-Some-split_first.others.now c.in-Some-split_first.node.now (map (λ e. (e.0, (e.1.0, e.1.1.now))) c.loop-name.name-iterator) (map (λ e. (e.0, (e.1.0, e.1.1.now))) c.next.new.self) x c.in-Some-split_first.ensures.cases.0 next left fault (c.in_err-output.ensures.reported tree source number there at is (ap (λ e. e ∷ []) same)))

pub loop-name-preserved : goal.loop-name-preserved
loop-name-preserved g c = record {
  kept = c.in_ok-output.ensures.kept ∙ c.loop-name.invariant.kept;
  within = others_of_all (λ (node : Node). node.number < length c.args.providers.now.nodes) c.in-Some-split_first.node.now c.in-Some-split_first.others.now
      (subst (AreWithin c.args.providers.now.nodes) c.in-Some-split_first.ensures.cases.0 c.loop-name.invariant.within);
  count =
      let long = sym (ap length c.in-Some-split_first.ensures.cases.0) ∙ c.loop-name.invariant.count ∙ ap length c.in-Some.ensures.steps in
      omega (arith, long);
  reported = λ source number over at is are.
      let context = c.args.context.now in
      let tables = tables_of g.T.Transforms.meanings g.A.Actions.meanings context.tables.now in
      let f = output_under tables source at (spots tables source) (whole tables source) in
      let name = c.in-Some.name.now in
      let tree = c.in-Some.made.now.1.now in
      let x : Named Made = (name, (c.in-Some.made.now.0, tree)) in
      let next = ap (map (λ e. (e.0, (e.1.0, e.1.1.now)))) c.in-Some.ensures.steps in
      let left = c.loop-name.invariant.reported source number over at is are in
      let there = subst (λ p. IsOver tables source (known_names context.projects.now context.tasks.now) context.faults.now p.nodes number) (sym c.loop-name.invariant.kept) over in
      let same = represents tables source number at.project (λ (output : Named Made). output.1.1) f (outputs_in c.args.outputs.now) c.loop-name.found.items c.loop-name.rest.now c.in-Some-split_first.others.now c.in-Some-split_first.node.now (map (λ e. (e.0, (e.1.0, e.1.1.now))) c.loop-name.name-iterator) (map (λ e. (e.0, (e.1.0, e.1.1.now))) c.next.new.self) x c.in-Some-split_first.ensures.cases.0 next left in
      goes_on tables source number at.project (λ (output : Named Made). output.1.1) f (outputs_in c.args.outputs.now) c.loop-name.found.items c.loop-name.rest.now c.in-Some-split_first.others.now c.in-Some-split_first.node.now (map (λ e. (e.0, (e.1.0, e.1.1.now))) c.loop-name.name-iterator) (map (λ e. (e.0, (e.1.0, e.1.1.now))) c.next.new.self) x c.in-Some-split_first.ensures.cases.0 next left c.in_ok-output.output c.push.new.self.items c.in_ok-push.ensures.items (c.in_ok-output.ensures.reported tree source number there at is (ap (λ e. e ∷ []) same));
}

pub returns-clause-reported : goal.returns-clause-reported
returns-clause-reported g c = λ source number over at is are.
    let context = c.args.context.now in
    let tables = tables_of g.T.Transforms.meanings g.A.Actions.meanings context.tables.now in
    let f = output_under tables source at (spots tables source) (whole tables source) in
    walk_ends f (outputs_in c.args.outputs.now) c.loop-name.found.items (map (λ e. (e.0, (e.1.0, e.1.1.now))) c.loop-name.name-iterator) (ap (map (λ e. (e.0, (e.1.0, e.1.1.now)))) c.in-None.ensures.steps.0)
    (c.loop-name.invariant.reported source number over at is are).1
    ∙ ap Ok (sym c.from_vec.ensures)
