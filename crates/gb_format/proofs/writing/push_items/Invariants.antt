use Rattle.std.proofs.Common.{◌≡◌, ◌++◌, drop, string_bytes}
use Rattle.gb_format.specs.Shown.{shown, typeset_from}
use Rattle.gb_format.proofs.writing.push_items.Given as goal

abbrev pub invariant-items : goal.invariant-items
invariant-items l = string_bytes l.out ++ typeset_from l.state l.before (shown (drop l.at l.items)) ≡ string_bytes l.initial.out ++ typeset_from l.fn.state l.fn.before (shown l.items)
