use Rattle.std.proofs.Common.{◌≡◌, ◌++◌, string_bytes}
use Rattle.std.specs.List.{flat_map}
use Rattle.std.specs.VecDeque.Iter.{deque_iter_rest}
use Rattle.gb_query.specs.Listing.{kind_text}
use Rattle.gb_query.proofs.listing_lines.push_kinds.Given as goal

abbrev pub invariant-loop-action : goal.invariant-loop-action
invariant-loop-action l = string_bytes l.text ++ flat_map kind_text (deque_iter_rest l.action-iterator) ≡ string_bytes l.fn.text ++ flat_map kind_text l.task.actions
