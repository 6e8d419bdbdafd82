use Rattle.std.proofs.Common.{inr}
use Rattle.gb_ask_command.proofs.place_query.replied.Goals as goal

pub returns-in-Ok-clause-replies : goal.returns-in-Ok-clause-replies
returns-in-Ok-clause-replies g c = inr (c.in-Ok.invocation, c.in-Ok.ensures, c.answer.ensures.reply)
