use Rattle.std.proofs.Common.{rules, ◌≡◌, ◌∷◌, List, sym, ap, subst, ◌∙◌}
use Rattle.std.specs.List.{AllByRecursion}
use Rattle.std.specs.VecDeque.Iter.{deque_iter_rest}
use Rattle.gb_plan.specs.Ready.{IsReadyAction}
use Rattle.gb_plan.specs.declared.task.Action.{Action}
use Rattle.gb_run.proofs.Endings.{none_left}
use Rattle.gb_run.specs.AskingChanges.{CanGoOn}
use Rattle.gb_run.proofs.OneWriter.{answering_goes, begins, ends, finds_it, not_by_changes, one_too_many, only, passes_by, quiet_goes}
use Rattle.gb_run.proofs.calling_changes.has_one_writer.Goals.{then-found-via-then-found, then-found-via-else-found+then-not-answers_changes}
use Rattle.gb_run.proofs.calling_changes.has_one_writer.Goals as goal

pub loop-action-init : goal.loop-action-init
loop-action-init g c = record {
  ready = search rules;
  agreed = λ kinds agrees. begins kinds c.args.task.now.actions _ (search rules);
  able = search rules;
}

pub returns-then-found-clause-agreed : goal.returns-then-found-clause-agreed
returns-then-found-clause-agreed g c = λ kinds agrees.
    let old = c.loop-action in
    let action = c.in-Some.action.now in
    let left = deque_iter_rest c.next.new.self in
    let next : deque_iter_rest old.action-iterator ≡ action ∷ left = c.in-Some.ensures.steps in
    let ready = (subst (λ (actions : List Action). AllByRecursion (IsReadyAction g.A.Actions.meanings c.args.table.now c.args.task.now) actions) next old.invariant.ready).0 in
    let so_far = old.invariant.agreed kinds agrees ∙ ap (only kinds old.found) next in
    elim c.then-found.branch [
      | then-found-via-then-found w ↦ so_far ∙ ap (λ b. only kinds b (action ∷ left)) w.if-found.true
          ∙ one_too_many g.A.Actions.meanings kinds c.args.table.now c.args.task.now action left ready agrees c.is_writer.result c.is_writer.ensures c.if-is_writer.true
      | then-found-via-else-found+then-not-answers_changes w ↦ so_far ∙ ap (λ b. only kinds b (action ∷ left)) w.if-found.false
          ∙ not_by_changes g.A.Actions.meanings kinds c.args.table.now c.args.task.now action left ready agrees c.is_writer.result c.is_writer.ensures w.answers_changes.result w.answers_changes.ensures c.if-is_writer.true w.if-not-answers_changes.true
    ]

pub loop-action-preserved-then-is_writer : goal.loop-action-preserved-then-is_writer
loop-action-preserved-then-is_writer g c =
    let old = c.loop-action in
    let action = c.in-Some.action.now in
    let left = deque_iter_rest c.next.new.self in
    let next : deque_iter_rest old.action-iterator ≡ action ∷ left = c.in-Some.ensures.steps in
    let ready = subst (λ (actions : List Action). AllByRecursion (IsReadyAction g.A.Actions.meanings c.args.table.now c.args.task.now) actions) next old.invariant.ready in
    record {
      ready = ready.1;
      agreed = λ kinds agrees.
          old.invariant.agreed kinds agrees ∙ ap (only kinds old.found) next ∙ ap (λ b. only kinds b (action ∷ left)) c.if-found.false
          ∙ finds_it g.A.Actions.meanings kinds c.args.table.now c.args.task.now action left ready.0 agrees c.is_writer.result c.is_writer.ensures c.answers_changes.result c.answers_changes.ensures c.if-is_writer.true c.if-not-answers_changes.false;
      able = λ later.
          old.invariant.able (subst (λ (actions : List Action). AllByRecursion (CanGoOn g.A.Actions.meanings c.args.table.now) actions) (sym next)
          (answering_goes g.A.Actions.meanings c.args.table.now action c.answers_changes.result c.if-not-answers_changes.false c.answers_changes.ensures, later));
    }

pub loop-action-preserved : goal.loop-action-preserved
loop-action-preserved g c =
    let old = c.loop-action in
    let action = c.in-Some.action.now in
    let left = deque_iter_rest c.next.new.self in
    let next : deque_iter_rest old.action-iterator ≡ action ∷ left = c.in-Some.ensures.steps in
    let ready = subst (λ (actions : List Action). AllByRecursion (IsReadyAction g.A.Actions.meanings c.args.table.now c.args.task.now) actions) next old.invariant.ready in
    record {
      ready = ready.1;
      agreed = λ kinds agrees.
          old.invariant.agreed kinds agrees ∙ ap (only kinds old.found) next
          ∙ passes_by g.A.Actions.meanings kinds c.args.table.now c.args.task.now action left ready.0 agrees c.is_writer.result c.is_writer.ensures old.found c.if-is_writer.false;
      able = λ later.
          old.invariant.able (subst (λ (actions : List Action). AllByRecursion (CanGoOn g.A.Actions.meanings c.args.table.now) actions) (sym next)
          (quiet_goes g.A.Actions.meanings c.args.table.now action c.is_writer.result c.if-is_writer.false c.is_writer.ensures, later));
    }

pub returns-clause-agreed : goal.returns-clause-agreed
returns-clause-agreed g c = λ kinds agrees.
    let old = c.loop-action in
    let left = deque_iter_rest old.action-iterator in
    old.invariant.agreed kinds agrees ∙ ends kinds old.found left (none_left left c.in-None.ensures.steps.0)

pub returns-clause-able : goal.returns-clause-able
returns-clause-able g c = λ found.
    let old = c.loop-action in
    let left = deque_iter_rest old.action-iterator in
    old.invariant.able (subst (λ (actions : List Action). AllByRecursion (CanGoOn g.A.Actions.meanings c.args.table.now) actions) (sym (none_left left c.in-None.ensures.steps.0)) tt)
