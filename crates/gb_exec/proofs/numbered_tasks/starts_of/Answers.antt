use Rattle.std.proofs.Common.{◌≡◌, ◌⊎◌, ◌↔◌, ℕ, true, List, length, Contains, sym, ap, subst, ◌∙◌, arith, Vec, replicate}
use Rattle.std.specs.Global.{Global}
use Rattle.std.proofs.lemmas.Result.{IfOk-weaker}
use Rattle.std.proofs.lemmas.List.{length-map}
use Rattle.gb_plan.specs.declared.plan.Planned.{Planned}
use Rattle.gb_exec.specs.Plans.{AreOfPlan, IsNeeded, GiveRows, finalizers_of, needs_of}
use Rattle.gb_exec.specs.Starts.{Progress, mark_at, row, rows}
use Rattle.gb_exec.specs.declared.may_start.Ending.TheVariants.{ToCome}
use Rattle.gb_exec.proofs.Rowed.{give_rows, needs_within, wired, of_plan}
use Rattle.gb_exec.proofs.numbered_tasks.starts_of.Goals as goal

pub mark_rows-requires : goal.mark_rows-requires
mark_rows-requires c =
    let plan = c.args.plan.now in
    let needs = subst (GiveRows needs_of plan) (sym c.in_ok-needs.ensures) (give_rows plan c.in_ok-numbers.numbers c.in_ok-numbers.ensures needs_of) in
    let finalizers = subst (GiveRows finalizers_of plan) (sym c.in_ok-finalizers.ensures) (give_rows plan c.in_ok-numbers.numbers c.in_ok-numbers.ensures finalizers_of) in
    let each = ap length c.in_ok-wanted.ensures ∙ length-map plan (λ (z : Planned). z.is_selected) in
    record {
      known = λ later task h.
          let less = needs_within plan (rows c.in_ok-needs.needs.items) (rows c.in_ok-finalizers.finalizers.items) needs finalizers later task
          (subst (λ (table : List (Vec ℕ Global)). Contains (row (rows table) later) task) c.as_slice.ensures.value h) in
          omega (arith, less, each);
    }

pub new-requires : goal.new-requires
new-requires c =
    let plan = c.args.plan.now in
    let needs = subst (GiveRows needs_of plan) (sym c.in_ok-needs.ensures) (give_rows plan c.in_ok-numbers.numbers c.in_ok-numbers.ensures needs_of) in
    let finalizers = subst (GiveRows finalizers_of plan) (sym c.in_ok-finalizers.ensures) (give_rows plan c.in_ok-numbers.numbers c.in_ok-numbers.ensures finalizers_of) in
    let each = ap length c.in_ok-wanted.ensures ∙ length-map plan (λ (z : Planned). z.is_selected) in
    wired plan (rows c.in_ok-needs.needs.items) (rows c.in_ok-finalizers.finalizers.items) needs finalizers c.requires.once c.requires.all_ready
    c.mark_rows.new.marks.items (omega (arith, c.mark_rows.ensures.len, each))

pub returns-clause-plan : goal.returns-clause-plan
returns-clause-plan c =
    let plan = c.args.plan.now in
    let needs = subst (GiveRows needs_of plan) (sym c.in_ok-needs.ensures) (give_rows plan c.in_ok-numbers.numbers c.in_ok-numbers.ensures needs_of) in
    let finalizers = subst (GiveRows finalizers_of plan) (sym c.in_ok-finalizers.ensures) (give_rows plan c.in_ok-numbers.numbers c.in_ok-numbers.ensures finalizers_of) in
    let marked = subst (λ (table : List (Vec ℕ Global)). (task : ℕ) → (mark_at c.mark_rows.new.marks.items task ≡ true)
    ↔ ((mark_at c.in_ok-wanted.wanted.items task ≡ true) ⊎ IsNeeded (rows table) task)) c.as_slice.ensures.value c.mark_rows.ensures.marked in
    IfOk-weaker c.new.result _ (AreOfPlan plan)
    (λ starts is. subst (AreOfPlan plan) (sym is)
    (of_plan plan (rows c.in_ok-needs.needs.items) (rows c.in_ok-finalizers.finalizers.items) needs finalizers c.in_ok-wanted.wanted.items c.mark_rows.new.marks.items _
    c.in_ok-wanted.ensures marked))
    c.new.ensures

pub returns-clause-endings : goal.returns-clause-endings
returns-clause-endings c =
    let plan = c.args.plan.now in
    let table = c.in_ok-needs.needs.items in
    let each : length table ≡ length plan = sym (length-map table (λ (v : Vec ℕ Global). v.items)) ∙ ap length c.in_ok-needs.ensures ∙ length-map plan _ in
    IfOk-weaker c.new.result _ (λ (starts : Progress). starts.endings ≡ replicate (length plan) ToCome)
    (λ starts is. ap (λ (s : Progress). s.endings) is ∙ ap (λ n. replicate n ToCome) each)
    c.new.ensures
