use Rattle.std.proofs.Common.{List, map, ap, subst, ◌∙◌}
use Rattle.gb_history.specs.Record.{Prints}
use Rattle.gb_label.specs.Deciding.{IsPresentOf}
use Rattle.gb_label.proofs.Growth.{ok_as}
use Rattle.gb_label.proofs.Recorded.{names_read}
use Rattle.gb_label.specs.Reading.{prints_read, records_with}
use Rattle.gb_label.proofs.deciding.decide_by.Goals as goal

pub decide_on-requires-clause-inputs : goal.decide_on-requires-clause-inputs
decide_on-requires-clause-inputs c = ap (map (λ (found : Prints). found.0)) c.in_ok-inputs.ensures ∙ names_read c.args.inputs.now ∙ c.requires.inputs

pub decide_on-requires-clause-outputs : goal.decide_on-requires-clause-outputs
decide_on-requires-clause-outputs c = ap (map (λ (found : Prints). found.0)) c.in_ok-outputs.ensures ∙ names_read c.args.outputs.now ∙ c.requires.outputs

pub returns-clause-present : goal.returns-clause-present
returns-clause-present c =
    let task = c.args.task.now in
    ok_as c.decide_on.result c.decide_on.ensures.present (λ found is.
    subst (λ (ins : List Prints). IsPresentOf c.args.options task ins (records_with task.outputs (prints_read c.args.outputs.now)) found.present) c.in_ok-inputs.ensures
    (subst (λ (outs : List Prints). IsPresentOf c.args.options task c.in_ok-inputs.inputs.items (records_with task.outputs outs) found.present) c.in_ok-outputs.ensures is))
