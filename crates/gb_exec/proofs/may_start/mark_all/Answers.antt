use Rattle.std.proofs.Common.{◌≡◌, ◌<◌, true, length, Contains, sym, subst, ◌∙◌, inl, inr, arith, get_or}
use Rattle.std.proofs.lemmas.Bool.{cases_eq}
use Rattle.std.proofs.lemmas.List.{get_or_default}
use Rattle.std.proofs.lemmas.List.Elements.{Contains-get_or}
use Rattle.std.proofs.Math.ListN.{set}
use Rattle.gb_exec.specs.Starts.{mark_at}
use Rattle.gb_exec.proofs.Marks.{mark_kept, mark_set, mark_only}
use Rattle.gb_exec.proofs.may_start.mark_all.Goals as goal

pub index_mut-requires : goal.index_mut-requires
index_mut-requires c =
    let known = c.requires.known _ (Contains-get_or c.args.row.now c.loop-task.task-index 0 c.loop-task-test.true) in
    omega (arith, known, c.loop-task.invariant.len)

pub loop-task-preserved : goal.loop-task-preserved
loop-task-preserved c =
    let xs = c.args.row.now in
    let i = c.loop-task.task-index in
    let marks = c.loop-task.marks.items in
    let here = Contains-get_or xs i 0 c.loop-task-test.true in
    let known = c.requires.known _ here in
    let lt : get_or xs i 0 < length marks = omega (arith, known, c.loop-task.invariant.len) in
    record {
      len = c.loop-task.invariant.len;
      kept = λ task h. mark_kept marks (get_or xs i 0) task lt (c.loop-task.invariant.kept task h);
      all = λ k less. elim (cases_eq k i) [
        | inl e ↦ subst (λ j. mark_at (set marks (get_or xs i 0) true) (get_or xs j 0) ≡ true) (sym e) (mark_set marks (get_or xs i 0) lt)
        | inr n ↦ mark_kept marks (get_or xs i 0) (get_or xs k 0) lt (c.loop-task.invariant.all k (omega (arith, less, n)))
      ];
      only = λ task h. elim (mark_only marks (get_or xs i 0) task h) [
        | inl e ↦ inr (subst (Contains xs) (sym e) here)
        | inr old ↦ c.loop-task.invariant.only task old
      ];
    }

pub returns-clause-all : goal.returns-clause-all
returns-clause-all c = λ task h.
    subst (λ t. mark_at c.loop-task.marks.items t ≡ true) (sym (get_or_default c.args.row.now h.0 task 0 h.1) ∙ h.2)
    (c.loop-task.invariant.all h.0 (omega (arith, h.1, c.loop-task-test.false)))
