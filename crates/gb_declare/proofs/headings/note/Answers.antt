use Rattle.std.proofs.Common.{refl}
use Rattle.gb_declare.specs.Declaring.{heading}
use Rattle.gb_declare.proofs.HeadingLemmas.{noted_put}
use Rattle.gb_declare.proofs.headings.note.Goals as goal

pub returns-in_ok-put : goal.returns-in_ok-put
returns-in_ok-put c = noted_put c.args.words.now (heading c.args.clause.now) c.in-Some.name.now c.in-Some.ensures c.put.new.things c.args.clause refl c.in_ok-put.ensures
