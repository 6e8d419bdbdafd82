-- Following steps, one more at a time.
use Rattle.std.specs.Prelude.{ℕ, ◌≡◌, ◌<◌, ◌+◌, ◌++◌, List, [], ◌∷◌, take, length, get_or}
use Rattle.std.proofs.Common.{sym, ap, ◌∙◌}
use Rattle.std.proofs.lemmas.List.{take_more}
use Rattle.gb_folder.specs.Files.{Files}
use Rattle.gb_run.specs.Steps.{Step, after_steps}
use Rattle.gb_run.proofs.Looks.{after_append}

pub after_more : (steps : List Step) (i : ℕ) (step : Step) → i < length steps → step ≡ get_or steps i step → (files : Files)
    → after_steps (after_steps files (take i steps)) (step ∷ []) ≡ after_steps files (take (i + 1) steps)
after_more steps i step within is files =
    sym (after_append files (take i steps) (step ∷ [])) ∙ ap (after_steps files) (ap (λ (s : Step). take i steps ++ s ∷ []) is ∙ sym (take_more steps i step within))
