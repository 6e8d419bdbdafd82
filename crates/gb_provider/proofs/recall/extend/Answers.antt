use Rattle.std.proofs.Common.{arith, ◌∙◌}
use Rattle.gb_provider.proofs.RecallLemmas.{known_more, closed_more}
use Rattle.std.proofs.lemmas.Grind.{common_steps}
use Rattle.gb_provider.proofs.recall.extend.Goals as goal

pub loop-i-preserved : goal.loop-i-preserved
loop-i-preserved g c = record {
  known = λ e. rw c.in_ok-push.ensures.items (known_more _ e ∙ c.loop-i.invariant.known e);
  closed = λ e shut. rw c.in_ok-push.ensures.items (closed_more _ e (c.loop-i.invariant.closed e shut));
  count = grind (arith, common_steps, c.loop-i.invariant.count, c.in_ok-push.ensures.items);
}
