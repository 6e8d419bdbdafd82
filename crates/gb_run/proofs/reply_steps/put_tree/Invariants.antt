use Rattle.std.proofs.Common.{◌≡◌, drop, map, List, ℕ}
use Rattle.gb_core.specs.Place.{beneath}
use Rattle.gb_run.specs.Named.{put as put_files}
use Rattle.gb_run.specs.Steps.{put_steps}
use Rattle.gb_run.specs.ChangeTexts.{steps_in}
use Rattle.gb_run.proofs.reply_steps.put_tree.Given as goal

abbrev pub invariant-loop-file : goal.invariant-loop-file
invariant-loop-file l =
    put_steps (steps_in l.steps) (put_files (map (λ (file : List ℕ × List ℕ). (beneath l.root file.0, file.1)) (drop l.file-index l.files)))
    ≡ put_steps (steps_in l.fn.steps) (put_files (map (λ (file : List ℕ × List ℕ). (beneath l.root file.0, file.1)) l.files))
