use Rattle.std.proofs.Common.{◌≡◌, take}
use Rattle.gb_arguments.specs.Values.{texts_after}
use Rattle.gb_arguments.proofs.arguments.copy_texts.Given as goal

abbrev pub invariant-loop-text : goal.invariant-loop-text
invariant-loop-text l = l.copied ≡ texts_after (take l.text-index l.texts)
