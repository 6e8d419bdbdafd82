use Rattle.std.proofs.Common.{◌≡◌, true, take}
use Rattle.std.specs.List.{list_all, zip}
use Rattle.gb_label.specs.Looking.{gives_no_source}
use Rattle.gb_label.proofs.early_outcomes.are_empty.Given as goal

abbrev pub invariant-loop-at : goal.invariant-loop-at
invariant-loop-at l = list_all gives_no_source (take l.at (zip l.properties l.inputs)) ≡ true
