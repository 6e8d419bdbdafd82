use Rattle.std.proofs.Common.{◌<◌, [], ◌∷◌, ◌++◌, Ok, Err, length, map, sym, ap, subst, ◌∙◌, arith}
use Rattle.std.proofs.lemmas.Result.{err_from_is_err_and}
use Rattle.gb_project.proofs.ReportLemmas.{first_fails, passed_on}
use Rattle.gb_project.specs.Over.{IsOver, known_names}
use Rattle.gb_registry.specs.Tables.{tables_of}
use Rattle.gb_declare.specs.Whole.{spots, whole}
use Rattle.gb_provider.specs.declared.expression.Node.{Node}
use Rattle.gb_project.specs.Given.{HasValue}
use Rattle.gb_declare.specs.Borrowed.{named_in}
use Rattle.gb_declare.specs.Joined.{Named}
use Rattle.gb_declare.specs.Realised.{and_then, each_of, required, value_under}
use Rattle.gb_script.specs.Tree.{Tree}
use Rattle.gb_project.specs.Rows.{AreWithin, HaveValues}
use Rattle.gb_project.proofs.RowValueLemmas.{all_of_both, fails_here, none_of_all, first_of_all, goes_on, others_of_all, required_there, represents}
use Rattle.gb_project.proofs.WalkLemmas.{walk_ends}
use Rattle.gb_project.proofs.input_values.values.Goals as goal

pub require-requires : goal.require-requires
require-requires g c =
    subst (λ p. c.in-Some-split_first.node.now.number < length p.nodes) (sym c.loop-name.invariant.kept)
    (first_of_all (λ (node : Node). node.number < length c.args.providers.now.nodes) c.in-Some-split_first.node.now c.in-Some-split_first.others.now
    (subst (AreWithin c.args.providers.now.nodes) c.in-Some-split_first.ensures.cases.0 c.loop-name.invariant.within))

pub returns-in_err-value-clause-reported : goal.returns-in_err-value-clause-reported
returns-in_err-value-clause-reported g c = λ source number over at is are.
    let context = c.args.context.now in
    let tables = tables_of g.T.Transforms.meanings g.A.Actions.meanings context.tables.now in
    let f = value_under tables source at (spots tables source) (whole tables source) in
    let name = c.in-Some.name.now in
    let tree = c.in-Some.field-0-1.now.now in
    let x : Named Tree = (name, tree) in
    let next = ap (map (λ e. (e.0, e.1.now))) c.in-Some.ensures.steps in
    let left = c.loop-name.invariant.reported source number over at is are in
    let there = subst (λ p. IsOver tables source (known_names context.projects.now context.tasks.now) context.faults.now p.nodes number) (sym c.loop-name.invariant.kept) over in
    let same = represents tables source number at.project (λ (value : Named Tree). value.1) f (named_in c.args.inputs.now) c.loop-name.found c.loop-name.rest.now c.in-Some-split_first.others.now c.in-Some-split_first.node.now (map (λ e. (e.0, e.1.now)) c.loop-name.name-iterator) (map (λ e. (e.0, e.1.now)) c.next.new.self) x c.in-Some-split_first.ensures.cases.0 next left in
    let fault = c.in_err-value.field-0.0 in
    let p = err_from_is_err_and c.from_residual-in_err-value.result c.from_residual-in_err-value.ensures.1 in
    passed_on tables source (each_of f (named_in c.args.inputs.now)) c.from_residual-in_err-value.result p.0 fault p.1 p.2
    (fails_here tables source number at.project (λ (value : Named Tree). value.1) f (named_in c.args.inputs.now) c.loop-name.found c.loop-name.rest.now c.in-Some-split_first.others.now c.in-Some-split_first.node.now (map (λ e. (e.0, e.1.now)) c.loop-name.name-iterator) (map (λ e. (e.0, e.1.now)) c.next.new.self) x c.in-Some-split_first.ensures.cases.0 next left fault
    (first_fails tables source (required tables source at (spots tables source) (whole tables source) name tree) (λ v. Ok (name, v)) fault
    (required_there tables source number at c.args.path.now is (number c.in-Some-split_first.node.now.number) tree same name (Err fault) (c.in_err-value.ensures.reported source number there))))

pub loop-name-preserved : goal.loop-name-preserved
loop-name-preserved g c = record {
  kept = c.in_ok-value.ensures.kept ∙ c.loop-name.invariant.kept;
  within = others_of_all (λ (node : Node). node.number < length c.args.providers.now.nodes) c.in-Some-split_first.node.now c.in-Some-split_first.others.now
      (subst (AreWithin c.args.providers.now.nodes) c.in-Some-split_first.ensures.cases.0 c.loop-name.invariant.within);
  count =
      let long = sym (ap length c.in-Some-split_first.ensures.cases.0) ∙ c.loop-name.invariant.count ∙ ap length c.in-Some.ensures.steps in
      omega (arith, long);
  given = λ others.
      c.loop-name.invariant.given
      (subst (HaveValues g.T.Transforms.meanings c.args.providers.now.nodes) (sym c.in-Some-split_first.ensures.cases.0)
      (all_of_both (λ (node : Node). HasValue g.T.Transforms.meanings c.args.providers.now.nodes node.number) c.in-Some-split_first.node.now c.in-Some-split_first.others.now
      (subst (λ p. HasValue g.T.Transforms.meanings p.nodes c.in-Some-split_first.node.now.number) c.loop-name.invariant.kept c.in_ok-value.ensures.given) others));
  reported = λ source number over at is are.
      let context = c.args.context.now in
      let tables = tables_of g.T.Transforms.meanings g.A.Actions.meanings context.tables.now in
      let f = value_under tables source at (spots tables source) (whole tables source) in
      let name = c.in-Some.name.now in
      let tree = c.in-Some.field-0-1.now.now in
      let x : Named Tree = (name, tree) in
      let next = ap (map (λ e. (e.0, e.1.now))) c.in-Some.ensures.steps in
      let left = c.loop-name.invariant.reported source number over at is are in
      let there = subst (λ p. IsOver tables source (known_names context.projects.now context.tasks.now) context.faults.now p.nodes number) (sym c.loop-name.invariant.kept) over in
      let same = represents tables source number at.project (λ (value : Named Tree). value.1) f (named_in c.args.inputs.now) c.loop-name.found c.loop-name.rest.now c.in-Some-split_first.others.now c.in-Some-split_first.node.now (map (λ e. (e.0, e.1.now)) c.loop-name.name-iterator) (map (λ e. (e.0, e.1.now)) c.next.new.self) x c.in-Some-split_first.ensures.cases.0 next left in
      goes_on tables source number at.project (λ (value : Named Tree). value.1) f (named_in c.args.inputs.now) c.loop-name.found c.loop-name.rest.now c.in-Some-split_first.others.now c.in-Some-split_first.node.now (map (λ e. (e.0, e.1.now)) c.loop-name.name-iterator) (map (λ e. (e.0, e.1.now)) c.next.new.self) x c.in-Some-split_first.ensures.cases.0 next left (name, c.in_ok-value.value) c.push.new.self
      (c.in_ok-push.ensures.ok ∙ ap (λ n. c.loop-name.found ++ (n, c.in_ok-value.value) ∷ []) c.in_ok-called.ensures)
      (ap (λ r. and_then r (λ v. Ok (name, v))) (required_there tables source number at c.args.path.now is (number c.in-Some-split_first.node.now.number) tree same name (Ok c.in_ok-value.value) (c.in_ok-value.ensures.reported source number there)));
}

pub returns-clause-reported : goal.returns-clause-reported
returns-clause-reported g c = λ source number over at is are.
    let context = c.args.context.now in
    let tables = tables_of g.T.Transforms.meanings g.A.Actions.meanings context.tables.now in
    let f = value_under tables source at (spots tables source) (whole tables source) in
    walk_ends f (named_in c.args.inputs.now) c.loop-name.found (map (λ e. (e.0, e.1.now)) c.loop-name.name-iterator) (ap (map (λ e. (e.0, e.1.now))) c.in-None.ensures.steps.0)
    (c.loop-name.invariant.reported source number over at is are).1

pub returns-clause-given : goal.returns-clause-given
returns-clause-given g c =
    c.loop-name.invariant.given (none_of_all (λ (node : Node). HasValue g.T.Transforms.meanings c.args.providers.now.nodes node.number) c.loop-name.rest.now (c.loop-name.invariant.count ∙ ap length c.in-None.ensures.steps.0))
