-- An answer that is printed in parts is its text.
use Rattle.std.proofs.Common.{◌≡◌, ◌++◌, ℕ, Bool, List, [], refl, sym, subst, IfOk}
use Rattle.std.specs.Prelude.{Option, OnErr, Result, Ok, Err}
use Rattle.gb_answer.specs.Answer.{answer_text, parts_of, rest_of}
use Rattle.gb_printer.specs.Printing.{Prints, parts_text}
use Rattle.gb_printer.proofs.Parts.{in_parts}
use Rattle.gb_printer.proofs.Printed.{prints_nothing}
use Rattle.gb_report.specs.declared.fault.Fault.{Fault}
use Rattle.gb_report.specs.declared.report.Report.{Report}

pub in_parts_of : (answer : Result Report Fault) → answer_text answer ≡ parts_of answer ++ rest_of answer
in_parts_of (Ok report) = in_parts report
in_parts_of (Err fault) = refl

module _ {P : Type 0} (contents : P → Option (List ℕ)) (whole : P → Bool) where
  -- the parts of a report are printed, and nothing of a refusal
  pub printed_of : (answer : Result Report Fault) (old new : P) → IfOk answer (λ report. Prints contents whole (parts_text report) old new) → OnErr answer (new ≡ old) → Prints contents whole (parts_of answer) old new
  printed_of (Ok report) old new printed same = printed
  printed_of (Err fault) old new printed same = subst (λ (p : P). Prints contents whole [] old p) (sym same) (prints_nothing contents whole old)
