use Rattle.std.proofs.Common.{[], List, subst, sym}
use Rattle.gb_graph.specs.Places.{AreSamePlaces, places_from, with_places}
use Rattle.gb_graph.specs.declared.places.TaskPlace.{TaskPlace}
use Rattle.gb_plan.specs.Task.{output_places}
use Rattle.gb_predict.proofs.predict.predict.Goals as goal

pub predict_each-reported-requires-clause-of_plan : goal.predict_each-reported-requires-clause-of_plan
predict_each-reported-requires-clause-of_plan g c =
    subst (λ (row : List TaskPlace). AreSamePlaces (with_places [] (places_from output_places 0 c.args.plan.now)) row) (sym c.as_slice.ensures.value) c.in_ok-row.ensures.of_plan
