use Rattle.std.proofs.Common.{◌≡◌, ◌<◌, ◌++◌, ◌∷◌, [], List, ℕ, length, map, get_or, sym, ap, subst, ◌∙◌, arith, append-nil}
use Rattle.std.specs.List.{AllByRecursion}
use Rattle.std.specs.BTreeSet.{contains}
use Rattle.std.specs.Vec.Iter.{into_iter_items}
use Rattle.gb_core.specs.Lists.{byte_order}
use Rattle.gb_plan.specs.declared.plan.Planned.{Planned}
use Rattle.gb_plan.specs.declared.task.TaskDeclaration.{TaskDeclaration}
use Rattle.gb_graph.proofs.Firsts.{worded_more, same_more}
use Rattle.gb_graph.proofs.Queues.{all_push}
use Rattle.gb_graph.proofs.Reached.{nil_of}
use Rattle.gb_graph.proofs.worded.worded.Goals as goal

pub loop-task-preserved : goal.loop-task-preserved
loop-task-preserved c =
    let old = c.loop-task.planned.items in
    let words = c.args.words.now in
    let these = contains byte_order c.args.selected.now in
    let next : Planned = record { task = c.in-Some.task; word = get_or words c.len.result 0; is_selected = c.contains-is_selected.result } in
    let pushed : c.push.new.self.items ≡ old ++ next ∷ [] = c.in_ok-push.ensures.items in
    record {
      same = ap (λ (ps : List Planned). map (λ (p : Planned). p.task) ps ++ into_iter_items c.next.new.self) pushed
          ∙ same_more old next (into_iter_items c.next.new.self) (into_iter_items c.loop-task.task-iterator) c.args.tasks.items c.in-Some.ensures.steps.0 c.loop-task.invariant.same;
      worded = subst (λ (ps : List Planned). (k : ℕ) (d : Planned) → k < length ps → (get_or ps k d).word ≡ get_or words k 0) (sym pushed)
          (worded_more old next words c.loop-task.invariant.worded (ap (λ n. get_or words n 0) (let e : c.len.result ≡ length old = omega (arith, c.len.ensures) in e)));
      selection = subst (AllByRecursion (λ (p : Planned). p.is_selected ≡ these p.task.path)) (sym pushed)
          (all_push (λ (p : Planned). p.is_selected ≡ these p.task.path) old next c.loop-task.invariant.selection c.contains-is_selected.ensures);
    }

pub returns : goal.returns
returns c = record {
  same =
      let none : into_iter_items c.loop-task.task-iterator ≡ [] = nil_of (into_iter_items c.loop-task.task-iterator) (let e = c.in-None.ensures.steps.0 in omega (arith, e)) in
      sym (append-nil (map (λ (p : Planned). p.task) c.loop-task.planned.items)) ∙ (ap (λ (ts : List TaskDeclaration). map (λ (p : Planned). p.task) c.loop-task.planned.items ++ ts) (sym none) ∙ c.loop-task.invariant.same);
  worded = c.loop-task.invariant.worded;
  selection = c.loop-task.invariant.selection;
}
