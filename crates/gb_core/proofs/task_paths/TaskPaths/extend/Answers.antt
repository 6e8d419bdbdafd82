use Rattle.std.proofs.Common.{rules, ◌≡◌, ◌∷◌, ◌++◌, ◌∙◌, ap, sym, length}
use native.Mathlib.Omega.{arith}
use Rattle.gb_core.proofs.Ordered.{prefix_grows, prefix_counted, if_refused, with_cloned, if_done}
use Rattle.gb_core.proofs.task_paths.TaskPaths.extend.Goals as goal

pub returns-in_err-copy-clause-err : goal.returns-in_err-copy-clause-err
returns-in_err-copy-clause-err c =
    let put = c.loop-task.invariant in
    if_refused c.from_residual.result
    (prefix_counted c.args.self.now c.loop-task.self put.0 c.args.more.now c.loop-task.task-iterator put.1 put.2)

pub loop-task-preserved : goal.loop-task-preserved
loop-task-preserved c =
    let put = c.loop-task.invariant in
    let left : c.loop-task.task-iterator ≡ c.in-Some.task.now ∷ c.next.new.self = search rules in
    let more = prefix_grows c.args.self.now put.0 c.args.more.now c.next.new.self c.in-Some.task.now (ap (λ rest. put.0 ++ rest) (sym left) ∙ put.1) in
    (more.0, more.1, grind arith)

pub returns-in_err-insert-clause-err : goal.returns-in_err-insert-clause-err
returns-in_err-insert-clause-err c =
    let put = c.loop-task.invariant in
    if_refused c.from_residual-in_err-insert.result
    (prefix_counted c.args.self.now c.insert.new.self put.0 c.args.more.now c.loop-task.task-iterator put.1 (c.in_err-insert.ensures.err ∙ put.2))

pub returns-then-is_empty-clause-ok : goal.returns-then-is_empty-clause-ok
returns-then-is_empty-clause-ok c =
    let none : length c.self.inside.paths.keys ≡ 0 = search rules in
    let same = if_done c.clone_from.result (with_cloned c.self.inside.paths.keys c.more.inside.paths.keys c.clone_from.new.self.keys none c.more.invariant) c.clone_from.ensures.ok in
    rw (← c.self.view_is, ← c.more.view_is) same
