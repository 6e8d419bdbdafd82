use Rattle.std.proofs.Common.{◌≡◌, take}
use Rattle.gb_action.proofs.files.Files.copy.Given as goal

abbrev pub invariant-loop-path : goal.invariant-loop-path
invariant-loop-path l = l.entries.items ≡ take l.path-index l.path-items
