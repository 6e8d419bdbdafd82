use Rattle.std.proofs.Common.{◌≡◌, not, take}
use Rattle.std.specs.List.{filter, list_any}
use Rattle.gb_core.specs.Place.{is_beneath}
use Rattle.gb_tree.proofs.starts.outermost.Given as goal

abbrev pub invariant-loop-place : goal.invariant-loop-place
invariant-loop-place l = l.kept.items ≡ filter (λ place. not (list_any (is_beneath place) l.places)) (take l.place-index l.place-items)
