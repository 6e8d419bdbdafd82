use Rattle.std.proofs.Common.{◌≡◌, List, [], ◌∷◌, refl, sym, ap, ◌∙◌, inl, inr}
use Rattle.std.proofs.lemmas.Slice.Zip.{either_empty_from_Zip}
use Rattle.std.specs.Iterator.Adapters.{zip_first, zip_second}
use Rattle.std.specs.Slice.Iter.{iter_rest}
use Rattle.gb_action.specs.declared.output_files.OutputFiles.{OutputFiles}
use Rattle.gb_plan.specs.declared.task.Output.{Output}
use Rattle.gb_run.specs.Named.{put as put_files, existing}
use Rattle.gb_run.specs.Steps.{put_steps}
use Rattle.gb_run.specs.ChangeTexts.{steps_in}
use Rattle.gb_run.proofs.reply_steps.put_existing.Goals as goal

none_observed : (outputs : List Output) → existing outputs [] ≡ []
none_observed [] = refl
none_observed (output ∷ outputs) = refl

pub returns : goal.returns
returns c =
    let old = c.loop-output in
    let now = steps_in old.steps in
    let outputs = iter_rest (zip_first old.output-iterator) in
    let observed = iter_rest (zip_second old.output-iterator) in
    elim (either_empty_from_Zip old.output-iterator c.next.new.self c.next.result c.in-None.is c.next.ensures.steps) [
      | inl none ↦ sym (ap (λ (os : List Output). put_steps now (put_files (existing os observed))) none) ∙ old.invariant
      | inr none ↦
          sym (ap (λ (found : List OutputFiles). put_steps now (put_files (existing outputs found))) none ∙ ap (λ files. put_steps now (put_files files)) (none_observed outputs)) ∙ old.invariant
    ]
