use Rattle.gb_script.proofs.LinePlaces.{lines_found, lines_fault}
use Rattle.gb_script.proofs.lines.read_script_lines.Goals as goal

pub returns-in-Ok-clause-found : goal.returns-in-Ok-clause-found
returns-in-Ok-clause-found c =
    let text = c.in_ok-text.ensures in
    lines_found c.args.bytes.now _ text.same text.short text.utf8 _ _ c.in_ok-lexed.ensures.tokens c.in_ok-lexed.ensures.lines _ c.in-Ok.ensures

pub returns-clause-fault : goal.returns-clause-fault
returns-clause-fault c =
    let text = c.in_ok-text.ensures in
    lines_fault c.args.bytes.now _ text.same text.short text.utf8 _ _ c.in_ok-lexed.ensures.tokens c.in_ok-lexed.ensures.lines _ _ c.in-Err.ensures c.fault_of.ensures
