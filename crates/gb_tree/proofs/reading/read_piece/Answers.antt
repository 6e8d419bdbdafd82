use Rattle.std.proofs.Common.{◌≡◌, inl, inr, ℕ, List, true, false, Option, Err, ap, ◌∙◌, subst}
use Rattle.std.specs.Prelude.{IsSome}
use Rattle.gb_tree.proofs.Refused.{read_refused, not_blocked}
use Rattle.gb_tree.proofs.reading.read_piece.Goals as goal

pub returns-in-Err-clause-err : goal.returns-in-Err-clause-err
returns-in-Err-clause-err g c = λ faithful exists.
    let F = g.F.Folder in
    let files = (F.device.contents c.args.folder.now).files in
    let place = c.args.place.now in
    elim (read_refused _ _ place c.in-Err.fault c.fault_at.result false c.fault_at.ensures
    (λ is. c.read_part.ensures.risen (c.in-Err.is ∙ ap Err is))
    (λ is. let h = subst (λ (o : Option (List ℕ)). IsSome o) (c.read_part.ensures.missing faithful (c.in-Err.is ∙ ap Err is)) exists in cc)
    (λ is. not_blocked files place (g.met.F.Folder.sound c.args.folder.now) exists (c.read_part.ensures.blocked faithful (c.in-Err.is ∙ ap Err is)))
    (λ is. c.read_part.ensures.not_named (c.in-Err.is ∙ ap Err is))
    (λ is. absurd (c.read_part.ensures.not_large (c.in-Err.is ∙ ap Err is)))) [
      | inl machine ↦ machine
      | inr large ↦ absurd (let h : false ≡ true = large.0 in cc)
    ]
