use Rattle.std.proofs.Common.{subst}
use Rattle.gb_graph.specs.Places.{AreSamePlaces}
use Rattle.gb_graph.proofs.Thinned.{thinned_same}
use Rattle.gb_graph.proofs.plan_tables.tables_of.Goals as goal

pub returns : goal.returns
returns c = record {
  chains = c.in_ok-chains.ensures;
  rising = c.in_ok-thinned.ensures.rising c.sort_by_place.ensures.rising;
  outputs = thinned_same _ c.sort_by_place.new.row.items _ (subst (λ row. AreSamePlaces row c.sort_by_place.new.row.items) c.in_ok-outputs.ensures c.sort_by_place.ensures.same) c.in_ok-thinned.ensures.thinned;
  roots = thinned_same _ c.sort_by_place-2.new.row.items _ (subst (λ row. AreSamePlaces row c.sort_by_place-2.new.row.items) c.in_ok-roots.ensures c.sort_by_place-2.ensures.same) c.in_ok-thinned-2.ensures.thinned;
}
