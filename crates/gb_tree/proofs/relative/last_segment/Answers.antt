use Rattle.std.proofs.Common.{arith}
use Rattle.gb_core.proofs.LastColon.{cut_at_last, no_last}
use Rattle.gb_tree.proofs.Rest.{last_is_path, place_is_path}
use Rattle.gb_tree.proofs.relative.last_segment.Goals as goal

pub returns-in-Some : goal.returns-in-Some
returns-in-Some c = record {
  path = (cut_at_last 47 _ _ _ (omega arith) c.in-Some.ensures.cases).1;
  good = last_is_path _ _ _ c.in-Some.ensures.cases c.requires;
}

pub returns-in-None : goal.returns-in-None
returns-in-None c = record {
  path = (no_last 47 _ (omega arith) c.in-None.ensures.cases).1;
  good = place_is_path c.args.place.now c.requires;
}
