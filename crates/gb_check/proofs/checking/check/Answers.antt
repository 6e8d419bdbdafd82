use Rattle.std.proofs.Common.{◌≡◌, List, [], subst, sym, ◌∙◌}
use Rattle.std.proofs.lemmas.Result.{IfOk-weaker}
use Rattle.gb_plan.specs.Graph.{Registry, paths_of}
use Rattle.gb_plan.specs.Task.{Path}
use Rattle.gb_check.specs.Found.{IsFoundInAll, in_plan, tasks_found}
use Rattle.gb_check.proofs.Rows.{empty_if}
use Rattle.gb_check.proofs.checking.check.Goals as goal

pub returns-then-is_empty-clause-found : goal.returns-then-is_empty-clause-found
returns-then-is_empty-clause-found g c =
    let sites = c.args.sites.now in
    let marks = c.args.marks.now in
    let registry = g.Ts.Tasks.registry c.args.tasks.now in
    let none : tasks_found sites marks registry ≡ [] = sym c.in_ok-found.ensures.found ∙ sym c.as_slice.ensures.value ∙ empty_if c.as_slice.result.now c.if-is_empty.ensures in
    IfOk-weaker c.check_all.result _ _
    (λ found is. in_plan none
    (subst (λ (r : Registry). IsFoundInAll sites r (paths_of registry) found.items) c.in_ok-found.ensures.kept
    (subst (λ (paths : List Path). IsFoundInAll sites (g.Ts.Tasks.registry c.check_each.new.tasks) paths found.items) c.requires is)))
    c.check_all.ensures.found
