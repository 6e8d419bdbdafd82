use Rattle.gb_declare.proofs.CopyLemmas.{part_answers_lem, part_is_endless_lem}
use Rattle.gb_declare.proofs.laws.parts_answer.Goals as goal

pub returns-clause-answers : goal.returns-clause-answers
returns-clause-answers c start = part_answers_lem c.T.Transforms.meanings

pub returns-clause-endless : goal.returns-clause-endless
returns-clause-endless c start = part_is_endless_lem c.T.Transforms.meanings
