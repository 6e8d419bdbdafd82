use Rattle.gb_ask_command.proofs.why.run.Goals as goal

pub returns-clause-reported : goal.returns-clause-reported
returns-clause-reported g c = (
  c.answered-answer.result,
  c.answered-answer.ensures.answers,
  c.write_answer-reply.result,
  c.write_answer-reply.ensures,
  c.print_answer-status.ensures.prints,
  c.print_answer-status.ensures.status,
)
