use Rattle.std.proofs.Common.{arith}
use Rattle.gb_core.proofs.LastColon.{cut_at_last, no_last}
use Rattle.gb_query.proofs.Segments.{last_is_place}
use Rattle.gb_query.proofs.membership.last_segment.Goals as goal

pub returns-in-Some : goal.returns-in-Some
returns-in-Some c = record {
  name = (cut_at_last 47 _ _ _ (omega arith) c.in-Some.ensures.cases).1;
  good = last_is_place _ _ _ c.in-Some.ensures.cases c.requires;
}

pub returns-in-None-clause-name : goal.returns-in-None-clause-name
returns-in-None-clause-name c = (no_last 47 _ (omega arith) c.in-None.ensures.cases).1
