use Rattle.std.proofs.Common.{List, subst}
use Rattle.gb_graph.specs.Places.{AreSamePlaces}
use Rattle.gb_graph.specs.declared.places.TaskPlace.{TaskPlace}
use Rattle.gb_predict.proofs.marks.outputs_by_place.Goals as goal

pub returns-clause-of_plan : goal.returns-clause-of_plan
returns-clause-of_plan c =
    subst (λ (items : List TaskPlace). AreSamePlaces items c.sort_by_place.new.row.items) c.in_ok-row.ensures c.sort_by_place.ensures.same
