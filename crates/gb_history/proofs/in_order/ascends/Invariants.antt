use denote.Shadow.{shadow}
use denote.Text.{Utf8}
use Rattle.std.proofs.Common.{◌≡◌, drop, map}
use Rattle.gb_history.specs.Ascending.{ascends, ascends_from}
use Rattle.gb_history.proofs.in_order.ascends.Given as goal

abbrev pub invariant-loop-item : goal.invariant-loop-item
invariant-loop-item g l = shadow (Utf8 l.last) × (ascends (map g.T.Keyed.key_of l.items) ≡ ascends_from l.last (map g.T.Keyed.key_of (drop l.item-index l.rest)))
