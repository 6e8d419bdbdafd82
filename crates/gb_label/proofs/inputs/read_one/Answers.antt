use Rattle.std.proofs.Common.{ℕ, List, sym, subst, ap, ◌∙◌, Err, refl}
use Rattle.gb_folder.proofs.Asked.{requests_nothing}
use Rattle.gb_tree.proofs.Answering.{entries_longer}
use Rattle.gb_tree.specs.Answered.{AreEntriesListed}
use Rattle.gb_tree.specs.Reading.{entries_observed}
use Rattle.gb_label.proofs.Reported.{device, err_is}
use Rattle.gb_label.proofs.inputs.read_one.Goals as goal

pub returns-in-Err-clause-blame : goal.returns-in-Err-clause-blame
returns-in-Err-clause-blame g c = λ place e.
    (c.reading_of.ensures.blame place (c.in-Err.is ∙ ap Err (device c.in-Err.fault place (sym c.reported.ensures ∙ err_is _ _ _ refl e)))).1

pub returns-in-Ok-clause-answered : goal.returns-in-Ok-clause-answered
returns-in-Ok-clause-answered g c = λ first before known.
    let F = g.F.Folder in
    let new = c.reading_of.new.folder in
    let property = c.args.property.now in
    let entries = entries_observed c.in-Ok.reading.1 in
    let Listed : List (List ℕ) → List (List ℕ) → List (List ℕ) → Type 0 =
    λ roots include exclude. AreEntriesListed F.device property.naming roots include exclude first new entries in
    let was = entries_longer before (requests_nothing new) property.naming c.as_slice.result.now c.as_slice-2.result.now c.as_slice-3.result.now entries c.in-Ok.ensures.listed in (
      subst (λ (roots : List (List ℕ)). Listed roots property.include property.exclude) c.as_slice.ensures
          (subst (λ (include : List (List ℕ)). Listed c.as_slice.result.now include property.exclude) c.as_slice-2.ensures
          (subst (λ (exclude : List (List ℕ)). Listed c.as_slice.result.now c.as_slice-2.result.now exclude) c.as_slice-3.ensures was)),
      c.in-Ok.ensures.answered first before known,
    )
