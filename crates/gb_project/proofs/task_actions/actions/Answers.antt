use Rattle.std.proofs.Common.{◌<◌, Bor, length, map, sym, ap, subst, ◌∙◌}
use Rattle.std.specs.List.{flat_map}
use Rattle.std.proofs.lemmas.List.Elements.{All-append}
use Rattle.std.proofs.lemmas.Result.{err_from_is_err_and}
use Rattle.gb_project.proofs.ReportLemmas.{passed_on}
use Rattle.gb_project.specs.Given.{HasValue}
use Rattle.gb_project.specs.Over.{IsOver, known_names}
use Rattle.gb_registry.specs.Tables.{tables_of}
use Rattle.gb_declare.specs.Whole.{spots, whole}
use Rattle.gb_provider.specs.declared.expression.Node.{Node}
use Rattle.gb_project.specs.Rows.{AreWithin, HaveValues}
use Rattle.gb_project.proofs.PartLemmas.{back_all, left_counted}
use Rattle.gb_project.proofs.RowValueLemmas.{none_of_all, row_fails_here, row_exists, rows_go_on}
use Rattle.std.specs.VecDeque.Iter.{deque_iter_rest}
use Rattle.gb_declare.specs.Borrowed.{now_of}
use Rattle.gb_declare.specs.Realised.{action_of, each_of}
use Rattle.gb_script.specs.declared.script.Call.{Call}
use Rattle.gb_project.proofs.WalkLemmas.{empty_of}
use Rattle.gb_project.proofs.task_actions.actions.Goals as goal

pub returns-in_err-action-clause-reported : goal.returns-in_err-action-clause-reported
returns-in_err-action-clause-reported g c = λ source number over at is are.
    let context = c.args.context.now in
    let tables = tables_of g.T.Transforms.meanings g.A.Actions.meanings context.tables.now in
    let f = action_of tables source at (spots tables source) (whole tables source) in
    let x = c.in-Some.call.now.now in
    let next = ap (map (λ (b : Bor Call). b.now)) c.in-Some.ensures.steps in
    let left = c.loop-call.invariant.reported source number over at is are in
    let there = subst (λ p. IsOver tables source (known_names context.projects.now context.tasks.now) context.faults.now p.nodes number) (sym c.loop-call.invariant.kept) over in
    let fault = c.in_err-action.field-0.0 in
    let p = err_from_is_err_and c.from_residual.result c.from_residual.ensures.1 in
    passed_on tables source (each_of f (now_of c.args.calls.now)) c.from_residual.result p.0 fault p.1 p.2
    (row_fails_here tables source number at.project (λ (call : Call). call.arguments) f (now_of c.args.calls.now) c.loop-call.found c.loop-call.rest.now c.split_at.result.0.now c.split_at.result.1.now (now_of (deque_iter_rest c.loop-call.call-iterator)) (now_of (deque_iter_rest c.next.new.self)) x c.split_at.ensures.whole (c.split_at.ensures.first ∙ ap length c.as_slice.ensures) next left fault (c.in_err-action.ensures.reported source number there at is (row_exists tables source number at.project (λ (call : Call). call.arguments) f (now_of c.args.calls.now) c.loop-call.found c.loop-call.rest.now c.split_at.result.0.now c.split_at.result.1.now (now_of (deque_iter_rest c.loop-call.call-iterator)) (now_of (deque_iter_rest c.next.new.self)) x c.split_at.ensures.whole (c.split_at.ensures.first ∙ ap length c.as_slice.ensures) next left)))

pub loop-call-preserved : goal.loop-call-preserved
loop-call-preserved g c = record {
  kept = c.in_ok-action.ensures.kept ∙ c.loop-call.invariant.kept;
  within = back_all (λ (node : Node). node.number < length c.args.providers.now.nodes) c.split_at.result.0.now c.split_at.result.1.now (subst (AreWithin c.args.providers.now.nodes) (sym c.split_at.ensures.whole) c.loop-call.invariant.within);
  count =
      let x = c.in-Some.call.now.now in
      left_counted c.split_at.result.0.now c.split_at.result.1.now c.loop-call.rest.now x.arguments (flat_map (λ (call : Call). call.arguments) (now_of (deque_iter_rest c.next.new.self))) (flat_map (λ (call : Call). call.arguments) (now_of (deque_iter_rest c.loop-call.call-iterator))) c.split_at.ensures.whole (c.split_at.ensures.first ∙ ap length c.as_slice.ensures) c.loop-call.invariant.count
      (ap (flat_map (λ (call : Call). call.arguments)) (ap (map (λ (b : Bor Call). b.now)) c.in-Some.ensures.steps));
  given = λ more.
      c.loop-call.invariant.given
      (subst (HaveValues g.T.Transforms.meanings c.args.providers.now.nodes) c.split_at.ensures.whole
      (All-append (λ (node : Node). HasValue g.T.Transforms.meanings c.args.providers.now.nodes node.number) c.split_at.result.0.now c.split_at.result.1.now (subst (λ p. HaveValues g.T.Transforms.meanings p.nodes c.split_at.result.0.now) c.loop-call.invariant.kept c.in_ok-action.ensures.given) more));
  reported = λ source number over at is are.
      let context = c.args.context.now in
      let tables = tables_of g.T.Transforms.meanings g.A.Actions.meanings context.tables.now in
      let f = action_of tables source at (spots tables source) (whole tables source) in
      let x = c.in-Some.call.now.now in
      let next = ap (map (λ (b : Bor Call). b.now)) c.in-Some.ensures.steps in
      let left = c.loop-call.invariant.reported source number over at is are in
      let there = subst (λ p. IsOver tables source (known_names context.projects.now context.tasks.now) context.faults.now p.nodes number) (sym c.loop-call.invariant.kept) over in
      rows_go_on tables source number at.project (λ (call : Call). call.arguments) f (now_of c.args.calls.now) c.loop-call.found c.loop-call.rest.now c.split_at.result.0.now c.split_at.result.1.now (now_of (deque_iter_rest c.loop-call.call-iterator)) (now_of (deque_iter_rest c.next.new.self)) x c.split_at.ensures.whole (c.split_at.ensures.first ∙ ap length c.as_slice.ensures) next left c.in_ok-action.action c.do_last.new.self c.in_ok-do_last.ensures.ok (c.in_ok-action.ensures.reported source number there at is (row_exists tables source number at.project (λ (call : Call). call.arguments) f (now_of c.args.calls.now) c.loop-call.found c.loop-call.rest.now c.split_at.result.0.now c.split_at.result.1.now (now_of (deque_iter_rest c.loop-call.call-iterator)) (now_of (deque_iter_rest c.next.new.self)) x c.split_at.ensures.whole (c.split_at.ensures.first ∙ ap length c.as_slice.ensures) next left));
}

pub returns-clause-given : goal.returns-clause-given
returns-clause-given g c =
    c.loop-call.invariant.given (none_of_all (λ (node : Node). HasValue g.T.Transforms.meanings c.args.providers.now.nodes node.number) c.loop-call.rest.now (c.loop-call.invariant.count ∙ ap (λ xs. length (flat_map (λ (call : Call). call.arguments) (now_of xs))) (empty_of (deque_iter_rest c.loop-call.call-iterator) c.in-None.ensures.steps.0)))
