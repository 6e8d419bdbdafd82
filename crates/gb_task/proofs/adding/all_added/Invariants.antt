use Rattle.std.proofs.Common.{◌≡◌, ℕ, List, take}
use Rattle.std.specs.List.{flat_map, zip}
use Rattle.gb_action.specs.Files.{Tree, Trees}
use Rattle.gb_plan.specs.declared.task.FileProperty.{FileProperty}
use Rattle.gb_label.specs.Reading.{digests_in}
use Rattle.gb_task.specs.Reading.{added_in}
use Rattle.gb_task.proofs.adding.all_added.Given as goal

abbrev pub invariant-loop-at : goal.invariant-loop-at
invariant-loop-at l = (trees : Trees) → l.prints ≡ digests_in trees
    → l.changes ≡ flat_map (λ (pair : FileProperty × (List ℕ × Tree)). added_in pair.0 pair.1.1) (take l.at (zip l.task.files trees))
