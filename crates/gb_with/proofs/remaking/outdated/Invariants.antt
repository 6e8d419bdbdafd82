use Rattle.std.proofs.Common.{◌≡◌, take}
use Rattle.gb_with.specs.Remaking.{made_no_more}
use Rattle.gb_with.proofs.remaking.outdated.Given as goal

abbrev pub invariant-loop-path : goal.invariant-loop-path
invariant-loop-path l = l.removes ≡ made_no_more (take l.path-index l.existed) l.made.entries
