use Rattle.std.proofs.Common.{sym}
use Rattle.gb_graph.proofs.RefusalRows.{place_found}
use Rattle.gb_graph.proofs.places.place_of.Goals as goal

pub returns : goal.returns
returns c = sym (place_found c.args.places.now c.args.index c.index-places-index.result c.requires)
