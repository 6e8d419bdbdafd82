use Rattle.std.proofs.Common.{◌≡◌, List, [], ◌∷◌, refl, sym, ap, ◌∙◌, inl, inr}
use Rattle.std.proofs.lemmas.Slice.Zip.{either_empty_from_Zip}
use Rattle.std.specs.Iterator.Adapters.{zip_first, zip_second}
use Rattle.std.specs.Slice.Iter.{iter_rest}
use Rattle.gb_action.specs.Files.{Trees}
use Rattle.gb_plan.specs.declared.task.Output.{Output}
use Rattle.gb_semantics.specs.Made.{put_over}
use Rattle.gb_run.specs.ChangeDigests.{at_places, digests_at}
use Rattle.gb_run.proofs.existing.digests_existed.Goals as goal

none_existed : (outputs : List Output) → digests_at outputs [] ≡ []
none_existed [] = refl
none_existed (output ∷ outputs) = refl

pub returns : goal.returns
returns c =
    let old = c.loop-output in
    let now = old.digests in
    let outputs = iter_rest (zip_first old.output-iterator) in
    let existed = iter_rest (zip_second old.output-iterator) in
    elim (either_empty_from_Zip old.output-iterator c.next.new.self c.next.result c.in-None.is c.next.ensures.steps) [
      | inl none ↦ sym (ap (λ (os : List Output). put_over now (at_places (digests_at os existed))) none) ∙ old.invariant
      | inr none ↦
          sym (ap (λ (trees : Trees). put_over now (at_places (digests_at outputs trees))) none ∙ ap (λ files. put_over now (at_places files)) (none_existed outputs)) ∙ old.invariant
    ]
