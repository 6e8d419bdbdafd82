-- The result of an edit.
use Rattle.std.specs.Prelude.{Result, Ok, Err}
use Rattle.gb_semantics.specs.declared.events.Answer.{Answer}
use Rattle.gb_semantics.specs.declared.events.Answer.TheVariants as answers
use Rattle.gb_report.specs.declared.fault.Fault.{Fault}

-- the result of an edit
abbrev pub Edit : Type 0
Edit = Result (Unit {0}) Fault

-- an edit is done, or refused with its fault
abbrev pub edit_answer : Edit → Answer
edit_answer (Ok done) = answers.Edited
edit_answer (Err fault) = answers.Refused fault
