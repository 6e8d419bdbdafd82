use Rattle.std.proofs.Common.{◌≡◌, ◌++◌}
use Rattle.gb_kinds.specs.Remade.{renewed}
use Rattle.gb_kinds.proofs.WordFiles.{observed}
use Rattle.gb_kinds.proofs.remade.renewed.Given as goal

abbrev pub invariant-loop-path : goal.invariant-loop-path
invariant-loop-path l = l.writes ++ renewed l.request.outputs (observed l.path-iterator) ≡ renewed l.request.outputs (observed l.initial.path-iterator)
