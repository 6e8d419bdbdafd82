use Rattle.std.proofs.Common.{◌≡◌, take}
use Rattle.gb_registry.proofs.registry.copy_paths.Given as goal

abbrev pub invariant-loop-path : goal.invariant-loop-path
invariant-loop-path l = l.copied.items ≡ take l.path-index l.paths
