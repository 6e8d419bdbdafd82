use Rattle.std.proofs.Common.{List, inr, subst, ◌∙◌}
use Rattle.std.proofs.lemmas.Result.{IfOk-weaker}
use Rattle.gb_plan.specs.Task.{Text}
use Rattle.gb_check.specs.Found.{IsFoundInPlan}
use Rattle.gb_check.proofs.Rows.{full_if}
use Rattle.gb_check.proofs.whole_plan.check_all.Goals as goal

pub returns-clause-found : goal.returns-clause-found
returns-clause-found g c =
    IfOk-weaker c.check_plan.result _ _
    (λ found is. inr (
      full_if c.args.names.now c.if-is_empty.ensures,
      subst (λ (words : List Text). IsFoundInPlan c.args.sites.now (g.Ts.Tasks.registry c.args.tasks.now) words found.items) (c.as_slice.ensures.value ∙ c.in_ok-words.ensures) is,
    ))
    c.check_plan.ensures.found
