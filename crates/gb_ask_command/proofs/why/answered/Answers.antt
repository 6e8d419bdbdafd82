use Rattle.std.proofs.Common.{inr}
use Rattle.gb_ask_command.proofs.why.answered.Goals as goal

pub returns-in-Ok-clause-answers : goal.returns-in-Ok-clause-answers
returns-in-Ok-clause-answers g c = inr (c.in-Ok.invocation, c.in-Ok.ensures, c.predict_build.ensures.answer)
