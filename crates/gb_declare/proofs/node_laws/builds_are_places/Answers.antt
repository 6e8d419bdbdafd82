use Rattle.gb_declare.proofs.BuildLemmas.{builds_are_places}
use Rattle.gb_declare.proofs.node_laws.builds_are_places.Goals as goal

pub returns : goal.returns
returns c = builds_are_places
