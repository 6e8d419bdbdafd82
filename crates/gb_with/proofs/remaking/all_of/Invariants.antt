use Rattle.std.proofs.Common.{◌≡◌, ◌++◌}
use Rattle.gb_kinds.specs.Remade.{as_made}
use Rattle.gb_with.proofs.remaking.all_of.Given as goal

abbrev pub invariant-loop-path : goal.invariant-loop-path
invariant-loop-path l = l.writes ++ as_made l.path-iterator.rest.items
    ≡ as_made l.initial.path-iterator.rest.items
