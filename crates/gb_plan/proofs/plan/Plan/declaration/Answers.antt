use Rattle.std.proofs.Common.{List, map, Contains, sym, ap, subst, ◌∙◌, arith}
use Rattle.std.specs.Cmp.Lexicographic.{bytes_decides}
use Rattle.std.proofs.lemmas.List.{get_or-map, length-map}
use Rattle.gb_plan.specs.declared.plan.Planned.{Planned}
use Rattle.gb_plan.specs.declared.task.TaskDeclaration.{TaskDeclaration}
use Rattle.gb_plan.proofs.Plans.{none_more}
use Rattle.gb_plan.proofs.plan.Plan.declaration.Goals as goal

abbrev task_of : Planned → TaskDeclaration
task_of planned = planned.task

pub returns-then-eq : goal.returns-then-eq
returns-then-eq c =
    let tasks = c.as_slice-planned-items.result.now in
    let i = c.loop-planned.planned-index in
    let x = c.planned-item.result in
    let lt = c.loop-planned-test.true in
    let same = length-map tasks task_of in
    record {
      own_path = (bytes_decides x.task.path c.args.path.now).0 (sym c.eq.ensures ∙ c.if-eq.true);
      task_in = subst (λ (zs : List Planned). Contains (map task_of zs) x.task) c.as_slice-planned-items.ensures
          (i, omega (arith, lt, same), get_or-map task_of tasks i x x.task lt ∙ ap task_of (sym c.planned-item.is));
    }

pub loop-planned-preserved : goal.loop-planned-preserved
loop-planned-preserved c =
    none_more c.as_slice-planned-items.result.now c.loop-planned.planned-index c.args.path.now c.planned-item.result c.loop-planned-test.true c.planned-item.is c.loop-planned.invariant
    (sym c.eq.ensures ∙ c.if-eq.false)
