use Rattle.gb_declare.proofs.CircleNamesLemmas.{reported_by_names}
use Rattle.gb_declare.proofs.laws.circles_are_reported_by_their_names.Goals as goal

pub returns : goal.returns
returns c start tables source = reported_by_names tables source
