use Rattle.std.proofs.Common.{◌≡◌, ◌++◌}
use Rattle.gb_kinds.specs.Remade.{outdated}
use Rattle.gb_kinds.specs.Words.{index_files}
use Rattle.gb_kinds.proofs.remade.outdated.Given as goal

abbrev pub invariant-loop-path : goal.invariant-loop-path
invariant-loop-path l = l.removes ++ outdated l.request.outputs (index_files l.made) l.path-iterator ≡ outdated l.request.outputs (index_files l.made) l.initial.path-iterator
