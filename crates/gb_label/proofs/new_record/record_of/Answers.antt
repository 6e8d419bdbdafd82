use Rattle.std.proofs.Common.{map, ap}
use Rattle.gb_history.specs.Record.{prints_in}
use Rattle.gb_label.proofs.Names.{in_order}
use Rattle.gb_label.proofs.new_record.record_of.Goals as goal

pub new-requires-clause-values : goal.new-requires-clause-values
new-requires-clause-values c =
    in_order c.in_ok-values.values (map (λ value. value.0) c.args.task.now.values) (ap (map (λ value. value.0)) c.in_ok-values.ensures)
    c.requires.in_order.values

pub new-requires-clause-inputs : goal.new-requires-clause-inputs
new-requires-clause-inputs c = in_order c.args.inputs.items _ c.requires.inputs c.requires.in_order.files

pub new-requires-clause-outputs : goal.new-requires-clause-outputs
new-requires-clause-outputs c = in_order (prints_in c.args.outputs.items) _ c.requires.outputs c.requires.in_order.outputs
