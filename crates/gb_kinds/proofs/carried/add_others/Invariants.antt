use Rattle.std.proofs.Common.{◌≡◌, ◌||◌, ◌&&◌, not, ℕ, List, bytes_eq}
use Rattle.std.specs.BTreeSet.{contains}
use Rattle.std.specs.List.{list_any}
use Rattle.gb_core.specs.Lists.{byte_order}
use Rattle.gb_kinds.proofs.carried.add_others.Given as goal

abbrev pub invariant-loop-line : goal.invariant-loop-line
invariant-loop-line l = (line : List ℕ) → (contains byte_order l.lines line || (list_any (bytes_eq line) l.line-iterator && not (contains byte_order l.gone line)))
    ≡ (contains byte_order l.initial.lines line || (list_any (bytes_eq line) l.initial.line-iterator && not (contains byte_order l.gone line)))
