use Rattle.std.proofs.Common.{ℕ, List, Option, Err, ap, ◌∙◌, subst}
use Rattle.std.specs.Prelude.{IsSome}
use Rattle.gb_tree.specs.Tree.{is_large}
use Rattle.gb_tree.proofs.Refused.{read_refused, large_from, not_blocked}
use Rattle.gb_tree.proofs.reading.read_file.Goals as goal

pub returns-in-Err-clause-err : goal.returns-in-Err-clause-err
returns-in-Err-clause-err g c = λ faithful exists.
    let F = g.F.Folder in
    let files = (F.device.contents c.args.folder.now).files in
    let place = c.args.place.now in
    read_refused _ _ place c.in-Err.fault c.fault_at.result (is_large files place) c.fault_at.ensures
    (λ is. c.read.ensures.risen (c.in-Err.is ∙ ap Err is))
    (λ is. let h = subst (λ (o : Option (List ℕ)). IsSome o) (c.read.ensures.missing faithful (c.in-Err.is ∙ ap Err is)) exists in cc)
    (λ is. not_blocked files place (g.met.F.Folder.sound c.args.folder.now) exists (c.read.ensures.blocked faithful (c.in-Err.is ∙ ap Err is)))
    (λ is. c.read.ensures.not_named (c.in-Err.is ∙ ap Err is))
    (λ is. large_from files place (c.read.ensures.large faithful (c.in-Err.is ∙ ap Err is)))
