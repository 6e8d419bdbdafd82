use Rattle.std.proofs.Common.{List, map, ap, ◌∙◌}
use Rattle.gb_history.specs.Record.{Prints, prints_in}
use Rattle.gb_history.specs.declared.record.OutputRecord.{OutputRecord}
use Rattle.gb_label.proofs.Recorded.{names_with}
use Rattle.gb_label.proofs.deciding.decide_on.Goals as goal

pub present_of-requires-clause-outputs : goal.present_of-requires-clause-outputs
present_of-requires-clause-outputs c =
    ap (λ (os : List OutputRecord). map (λ (found : Prints). found.0) (prints_in os)) c.in_ok-outputs.ensures
    ∙ names_with c.args.task.now.outputs c.args.outputs.items c.requires.outputs
