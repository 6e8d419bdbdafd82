use Rattle.std.proofs.Common.{◌≡◌, drop}
use Rattle.std.specs.List.{flat_map}
use Rattle.gb_declare.specs.Declaring.{pattern_faults}
use Rattle.gb_declare.proofs.clauses.check_patterns.Given as goal

abbrev pub invariant-loop-text : goal.invariant-loop-text
invariant-loop-text l = flat_map pattern_faults l.texts ≡ flat_map pattern_faults (drop l.text-index l.text-items)
