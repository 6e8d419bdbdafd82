use Rattle.std.proofs.Common.{inl, inr}
use Rattle.gb_ask_command.proofs.check.check_statements.Goals as goal

pub returns-in-Err-clause-err : goal.returns-in-Err-clause-err
returns-in-Err-clause-err g c = λ faithful.
    elim (c.in-Err.ensures.err faithful) [
      | inl machine ↦ inl machine
      | inr text ↦ inr (inl text)
    ]
