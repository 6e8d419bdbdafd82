use Rattle.std.proofs.Common.{◌≡◌, ◌<◌, ◌↔◌, ℕ, Bool, true, false, List, length, Contains, sym, ap, subst, ◌∙◌, arith, IsTrue, Vec}
use Rattle.std.specs.Global.{Global}
use Rattle.std.proofs.lemmas.List.{get_or_default, length-map}
use Rattle.gb_exec.specs.Starts.{Progress, Serves, Spreads, mark_at, row, rows}
use Rattle.gb_exec.specs.contracts.may_start.Starts.{the_invariant, the_view}
use Rattle.gb_exec.proofs.Kept.{respread}
use Rattle.gb_exec.proofs.may_start.Starts.serves.Goals as goal
use Rattle.gb_exec.proofs.may_start.Starts.serves.Goals.{then-not-self, else-not-self}

pub spread-requires-clause-lesser : goal.spread-requires-clause-lesser
spread-requires-clause-lesser c = λ later task h.
    c.self.invariant.wired.needs_first later task (subst (λ vs. Contains (row (rows vs) later) task) c.as_slice-then-not-self.ensures.value h)

pub invariant_of-self : goal.invariant_of-self
invariant_of-self c = elim c.if-not-self.branch [
  | then-not-self w ↦
      let inside : Progress = record {
        needs = rows c.self.inside.needs.items;
        finalizers = rows c.self.inside.finalizers.items;
        wanted = c.self.inside.wanted.items;
        endings = c.self.inside.endings.items;
      } in
      let new = w.spread.new.marks.items in
      let by_needs = subst (λ (vs : List (Vec ℕ Global)). (task : ℕ) → (mark_at new task ≡ true) ↔ Spreads (rows vs) w.copy_marks.new.copied.items task)
      w.as_slice-then-not-self.ensures.value w.spread.ensures.marked in
      let marked = subst (λ (marks : List Bool). (task : ℕ) → (mark_at new task ≡ true) ↔ Spreads inside.needs marks task)
      (w.copy_marks.ensures ∙ w.as_slice.ensures.value) by_needs in
      let same : length inside.needs ≡ length c.self.inside.needs.items = length-map _ _ in
      subst the_invariant (sym w.self-inside-is)
      (respread inside c.self.inside.called.items c.self.inside.serving.items c.self.inside.is_spread c.self.inside.some_failed c.self.invariant new
      (omega (arith, w.spread.ensures.len, ap length w.copy_marks.ensures, ap length w.as_slice.ensures.value, c.self.invariant.each_called)) marked)
  | else-not-self w ↦ subst the_invariant (sym w.self-inside-is) c.self.invariant
]

pub returns-clause-serves : goal.returns-clause-serves
returns-clause-serves c =
    let new = c.if-not-self.self-inside in
    let kept : the_invariant new = elim c.if-not-self.branch [ then-not-self w ↦ invariant_of-self c | else-not-self w ↦ invariant_of-self c ] in
    let spread : new.is_spread ≡ true = elim c.if-not-self.branch [
      | then-not-self w ↦ ap (λ i. i.is_spread) w.self-inside-is
      | else-not-self w ↦ ap (λ i. i.is_spread) w.self-inside-is ∙ w.if-not-self.false
    ] in
    let observed : the_view new ≡ c.args.self.now = elim c.if-not-self.branch [
      | then-not-self w ↦ ap the_view w.self-inside-is ∙ c.self.view_is
      | else-not-self w ↦ ap the_view w.self-inside-is ∙ c.self.view_is
    ] in
    let known : c.args.task < length (rows new.needs.items) = subst (λ p. c.args.task < length p.needs) (sym observed) c.requires.known in
    let is : c.index.result.now ≡ mark_at new.serving.items c.args.task =
    c.index.ensures ∙ get_or_default new.serving.items c.args.task c.index.result.now false (omega (arith, known, kept.each_serving)) in
    subst (λ p. (IsTrue c.index.result.now → Serves p c.args.task) × (Serves p c.args.task → IsTrue c.index.result.now)) observed (
      λ h. (kept.are_serving spread c.args.task).0 (sym is ∙ h),
      λ s. is ∙ (kept.are_serving spread c.args.task).1 s,
    )
