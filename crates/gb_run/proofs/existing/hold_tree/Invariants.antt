use Rattle.std.proofs.Common.{◌≡◌, drop, map, List, ℕ}
use Rattle.gb_core.specs.Place.{beneath}
use Rattle.gb_semantics.specs.Made.{put_over}
use Rattle.gb_run.specs.ChangeDigests.{at_places}
use Rattle.gb_run.proofs.existing.hold_tree.Given as goal

abbrev pub invariant-loop-path : goal.invariant-loop-path
invariant-loop-path l =
    put_over l.digests (at_places (map (λ (file : List ℕ × List ℕ). (beneath l.root file.0, file.1)) (drop l.path-index l.tree)))
    ≡ put_over l.fn.digests (at_places (map (λ (file : List ℕ × List ℕ). (beneath l.root file.0, file.1)) l.tree))
