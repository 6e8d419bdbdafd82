use Rattle.std.proofs.Common.{◌++◌, ◌∙◌, List, ap, append-nil, sym}
use Rattle.gb_report.specs.declared.fault.Fault.{Fault}
use Rattle.gb_check.proofs.Words.{word_added}
use Rattle.gb_check.proofs.default_words.push_word.Goals as goal

pub returns-in-Ok-clause-faults : goal.returns-in-Ok-clause-faults
returns-in-Ok-clause-faults g c =
    let old : List Fault = c.args.faults.now.items in
    sym (append-nil old) ∙ ap (λ (reported : List Fault). old ++ reported) (sym c.in-Ok.ensures.good)

pub returns-in-Err-clause-faults : goal.returns-in-Err-clause-faults
returns-in-Err-clause-faults g c =
    word_added c.push_fault.result (g.Ts.Tasks.registry c.args.tasks.now) c.args.word.now c.in-Err.fault c.args.faults.now.items c.push_fault.new.faults.items
    c.in-Err.ensures.bad c.push_fault.ensures.known c.push_fault.ensures.faults
