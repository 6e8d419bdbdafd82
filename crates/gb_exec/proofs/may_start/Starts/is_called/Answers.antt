use Rattle.std.proofs.Common.{◌≡◌, ◌<◌, false, length, sym, subst, ◌∙◌, inl, inr, arith, IsTrue, ◌⊎◌}
use Rattle.std.proofs.lemmas.Bool.{false≢true}
use Rattle.std.proofs.lemmas.List.{get_or_default}
use Rattle.gb_exec.specs.Starts.{FinalizesStarted, mark_at, rows}
use Rattle.gb_exec.proofs.may_start.Starts.is_called.Goals as goal

pub returns-else-index : goal.returns-else-index
returns-else-index c =
    let known : c.args.task < length (rows c.self.inside.needs.items) = subst (λ p. c.args.task < length p.needs) (sym c.self.view_is) c.requires.known in
    let in_wanted : c.args.task < length c.self.inside.wanted.items = omega (arith, known, c.self.invariant.wired.each_wanted) in
    let in_called : c.args.task < length c.self.inside.called.items = omega (arith, known, c.self.invariant.each_called) in
    let is : c.index-else-index.result.now ≡ mark_at c.self.inside.called.items c.args.task =
    c.index-else-index.ensures ∙ get_or_default c.self.inside.called.items c.args.task c.index-else-index.result.now false in_called in
    let unwanted : mark_at c.self.inside.wanted.items c.args.task ≡ false =
    sym (c.index.ensures ∙ get_or_default c.self.inside.wanted.items c.args.task c.index.result.now false in_wanted) ∙ c.if-index.false in
    subst (λ p. (IsTrue c.index-else-index.result.now → IsTrue (mark_at p.wanted c.args.task) ⊎ FinalizesStarted p c.args.task)
    × (IsTrue (mark_at p.wanted c.args.task) ⊎ FinalizesStarted p c.args.task → IsTrue c.index-else-index.result.now)) c.self.view_is (
      λ h. inr ((c.self.invariant.are_called c.args.task).0 (sym is ∙ h)),
      λ either. elim either [
        | inl wanted ↦ absurd (false≢true (sym unwanted ∙ wanted))
        | inr called ↦ is ∙ (c.self.invariant.are_called c.args.task).1 called
      ],
    )
