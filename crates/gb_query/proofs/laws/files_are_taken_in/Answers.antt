use Rattle.gb_query.proofs.Members.{taken_in}
use Rattle.gb_query.proofs.laws.files_are_taken_in.Goals as goal

pub returns : goal.returns
returns c = taken_in
