use Rattle.std.proofs.Common.{take}
use Rattle.std.specs.List.{AllZip}
use Rattle.gb_ask_command.specs.Graph.{IsNodeOf}
use Rattle.gb_ask_command.proofs.nodes.numbered.Given as goal

abbrev pub invariant-loop-planned : goal.invariant-loop-planned
invariant-loop-planned l = AllZip (IsNodeOf l.plan) (take l.planned-index l.plan) l.nodes.items
