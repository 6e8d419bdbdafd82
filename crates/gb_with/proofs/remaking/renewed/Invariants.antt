use Rattle.std.proofs.Common.{◌≡◌, ◌++◌}
use Rattle.gb_kinds.specs.Remade.{renewed}
use Rattle.gb_with.proofs.remaking.renewed.Given as goal

abbrev pub invariant-loop-path : goal.invariant-loop-path
invariant-loop-path l = l.writes ++ renewed l.request.outputs l.path-iterator
    ≡ renewed l.request.outputs l.initial.path-iterator
