use Rattle.std.proofs.Common.{◌≡◌, map, take}
use Rattle.gb_tree.specs.Pattern.{spelled_out}
use Rattle.gb_project.proofs.file_properties.patterns.Given as goal

abbrev pub invariant-loop-text : goal.invariant-loop-text
invariant-loop-text l = l.found.items ≡ map spelled_out (take l.text-index l.texts)
