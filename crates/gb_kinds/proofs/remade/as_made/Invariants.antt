use Rattle.std.proofs.Common.{◌≡◌, ◌++◌}
use Rattle.gb_kinds.specs.Remade.{as_made}
use Rattle.gb_kinds.proofs.WordFiles.{observed}
use Rattle.gb_kinds.proofs.remade.as_made.Given as goal

abbrev pub invariant-loop-path : goal.invariant-loop-path
invariant-loop-path l = l.writes ++ as_made (observed l.path-iterator) ≡ as_made (observed l.initial.path-iterator)
