use Rattle.gb_graph.proofs.Nearby.{last_within, near_again}
use Rattle.gb_graph.proofs.last_overlap.near_at.Goals as goal

pub is_again-requires-clause-last : goal.is_again-requires-clause-last
is_again-requires-clause-last c = last_within c.args.outputs.now c.args.places.now c.args.last.near.items c.args.last.place c.requires.last

pub returns-then-is_again-clause-near : goal.returns-then-is_again-clause-near
returns-then-is_again-clause-near c =
    near_again c.args.outputs.now c.args.places.now c.args.last.near.items c.args.place c.args.last.place c.requires.last c.if-is_again.ensures
