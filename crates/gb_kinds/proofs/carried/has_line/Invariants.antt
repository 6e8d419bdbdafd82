use Rattle.std.proofs.Common.{◌≡◌}
use Rattle.std.specs.BTreeSet.{contains}
use Rattle.std.specs.List.{list_any}
use Rattle.gb_core.specs.Lists.{byte_order}
use Rattle.gb_kinds.proofs.carried.has_line.Given as goal

abbrev pub invariant-loop-line : goal.invariant-loop-line
invariant-loop-line l = list_any (contains byte_order l.lines) l.line-iterator ≡ list_any (contains byte_order l.lines) l.initial.line-iterator
