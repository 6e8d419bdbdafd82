use Rattle.std.proofs.Common.{◌≡◌, ◌+◌, ◌<◌, [], ◌∷◌, ◌++◌, ◌&&◌, Bor, Ok, Err, drop, length, sym, ap, subst, ◌∙◌, arith, refl}
use Rattle.std.specs.List.{list_all}
use Rattle.std.proofs.lemmas.Result.{err_from_is_err_and}
use Rattle.gb_project.proofs.ReportLemmas.{first_fails, passed_on}
use Rattle.gb_project.specs.Over.{IsOver, known_names}
use Rattle.gb_registry.specs.Tables.{tables_of}
use Rattle.gb_declare.specs.Borrowed.{now_of}
use Rattle.gb_declare.specs.Realised.{and_then, each_of, passes}
use Rattle.gb_declare.specs.Whole.{spots, whole}
use Rattle.gb_provider.specs.declared.expression.Node.{Node}
use Rattle.gb_script.specs.declared.script.Condition.{Condition}
use Rattle.gb_project.specs.Evaluated.{all_hold}
use Rattle.gb_project.specs.Rows.{AreWithin}
use Rattle.gb_project.proofs.RowValueLemmas.{fails_here, goes_on, others_of_all, passes_there, represents}
use Rattle.gb_project.proofs.WalkLemmas.{item_left, none_left, one_less, one_more_holds, walk_ends}
use Rattle.gb_project.proofs.conditions.all_hold.Goals as goal
use Rattle.gb_project.proofs.conditions.all_hold.Goals.{then-all, else-all}

pub returns-in_err-holds-clause-reported : goal.returns-in_err-holds-clause-reported
returns-in_err-holds-clause-reported g c = λ source number over at is are.
    let context = c.args.context.now in
    let tables = tables_of g.T.Transforms.meanings g.A.Actions.meanings context.tables.now in
    let f = passes tables source at (spots tables source) (whole tables source) in
    let next = item_left (λ (b : Bor Condition). b.now) c.args.conditions.now c.loop-condition.condition-index c.condition-item.result (omega (arith, c.loop-condition-test.true)) c.condition-item.is in
    let left = c.loop-condition.invariant.reported source number over at is are in
    let there = subst (λ p. IsOver tables source (known_names context.projects.now context.tasks.now) context.faults.now p.nodes number) (sym c.loop-condition.invariant.kept) over in
    let same = represents tables source number at.project (λ (condition : Condition). condition.value) f (now_of c.args.conditions.now) left.1.0 c.loop-condition.rest.now c.in-Some.others.now c.in-Some.node.now (now_of (drop c.loop-condition.condition-index c.args.conditions.now)) (now_of (drop (c.loop-condition.condition-index + 1) c.args.conditions.now)) c.condition-item.result.now c.in-Some.ensures.cases.0 next (left.0, left.1.2) in
    let fault = c.in_err-holds.field-0.0 in
    let p = err_from_is_err_and c.from_residual.result c.from_residual.ensures.1 in
    passed_on tables source (all_hold tables source at (now_of c.args.conditions.now)) c.from_residual.result p.0 fault p.1 p.2
    (first_fails tables source (each_of f (now_of c.args.conditions.now)) (λ truths. Ok (list_all (λ truth. truth) truths)) fault
    (fails_here tables source number at.project (λ (condition : Condition). condition.value) f (now_of c.args.conditions.now) left.1.0 c.loop-condition.rest.now c.in-Some.others.now c.in-Some.node.now (now_of (drop c.loop-condition.condition-index c.args.conditions.now)) (now_of (drop (c.loop-condition.condition-index + 1) c.args.conditions.now)) c.condition-item.result.now c.in-Some.ensures.cases.0 next (left.0, left.1.2) fault
    (passes_there tables source at (number c.in-Some.node.now.number) c.condition-item.result.now same (Err fault) (c.in_err-holds.ensures.reported at source number there))))

pub loop-condition-preserved : goal.loop-condition-preserved
loop-condition-preserved g c = record {
  kept = c.in_ok-holds.ensures.kept ∙ c.loop-condition.invariant.kept;
  within = others_of_all (λ (node : Node). node.number < length c.args.providers.now.nodes) c.in-Some.node.now c.in-Some.others.now
      (subst (AreWithin c.args.providers.now.nodes) c.in-Some.ensures.cases.0 c.loop-condition.invariant.within);
  count =
      let less = one_less c.args.conditions.now c.loop-condition.condition-index c.condition-item.result (omega (arith, c.loop-condition-test.true)) in
      let long = sym (ap length c.in-Some.ensures.cases.0) ∙ c.loop-condition.invariant.count in
      omega (arith, less, long);
  reported = λ source number over at is are.
      let context = c.args.context.now in
      let tables = tables_of g.T.Transforms.meanings g.A.Actions.meanings context.tables.now in
      let f = passes tables source at (spots tables source) (whole tables source) in
      let next = item_left (λ (b : Bor Condition). b.now) c.args.conditions.now c.loop-condition.condition-index c.condition-item.result (omega (arith, c.loop-condition-test.true)) c.condition-item.is in
      let left = c.loop-condition.invariant.reported source number over at is are in
      let there = subst (λ p. IsOver tables source (known_names context.projects.now context.tasks.now) context.faults.now p.nodes number) (sym c.loop-condition.invariant.kept) over in
      let same = represents tables source number at.project (λ (condition : Condition). condition.value) f (now_of c.args.conditions.now) left.1.0 c.loop-condition.rest.now c.in-Some.others.now c.in-Some.node.now (now_of (drop c.loop-condition.condition-index c.args.conditions.now)) (now_of (drop (c.loop-condition.condition-index + 1) c.args.conditions.now)) c.condition-item.result.now c.in-Some.ensures.cases.0 next (left.0, left.1.2) in
      let on = goes_on tables source number at.project (λ (condition : Condition). condition.value) f (now_of c.args.conditions.now) left.1.0 c.loop-condition.rest.now c.in-Some.others.now c.in-Some.node.now (now_of (drop c.loop-condition.condition-index c.args.conditions.now)) (now_of (drop (c.loop-condition.condition-index + 1) c.args.conditions.now)) c.condition-item.result.now c.in-Some.ensures.cases.0 next (left.0, left.1.2) c.in_ok-holds.holds (left.1.0 ++ c.in_ok-holds.holds ∷ []) refl
      (passes_there tables source at (number c.in-Some.node.now.number) c.condition-item.result.now same (Ok c.in_ok-holds.holds) (c.in_ok-holds.ensures.reported at source number there)) in
      let both : c.if-all.all ≡ (c.loop-condition.all && c.in_ok-holds.holds) = elim c.if-all.branch [
        | then-all w ↦ w.all-is ∙ ap (λ b. b && c.in_ok-holds.holds) (sym w.if-all.true)
        | else-all w ↦ w.all-is ∙ w.if-all.false ∙ ap (λ b. b && c.in_ok-holds.holds) (sym w.if-all.false)
      ] in
      (on.0, (left.1.0 ++ c.in_ok-holds.holds ∷ [], one_more_holds left.1.0 c.loop-condition.all c.in_ok-holds.holds left.1.1 ∙ sym both, on.1));
}

pub returns-clause-reported : goal.returns-clause-reported
returns-clause-reported g c = λ source number over at is are.
    let context = c.args.context.now in
    let tables = tables_of g.T.Transforms.meanings g.A.Actions.meanings context.tables.now in
    let f = passes tables source at (spots tables source) (whole tables source) in
    let left = c.loop-condition.invariant.reported source number over at is are in
    ap (λ r. and_then r (λ truths. Ok (list_all (λ truth. truth) truths)))
    (walk_ends f (now_of c.args.conditions.now) left.1.0 (now_of (drop c.loop-condition.condition-index c.args.conditions.now)) (none_left (λ (b : Bor Condition). b.now) c.args.conditions.now c.loop-condition.condition-index (omega (arith, c.loop-condition-test.false))) left.1.2)
    ∙ ap Ok left.1.1
