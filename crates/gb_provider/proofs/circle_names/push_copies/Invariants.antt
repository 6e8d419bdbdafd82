use Rattle.std.proofs.Common.{◌≡◌, ◌++◌, take}
use Rattle.gb_provider.proofs.circle_names.push_copies.Given as goal

abbrev pub invariant-loop-text : goal.invariant-loop-text
invariant-loop-text l = l.to ≡ l.initial.to ++ take l.text-index l.texts
