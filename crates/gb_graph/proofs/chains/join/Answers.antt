use Rattle.std.proofs.Common.{arith}
use Rattle.gb_graph.proofs.Bits.{word_joined, bits_joined}
use Rattle.gb_graph.proofs.chains.join.Goals as goal

pub returns : goal.returns
returns c = record {
  bits = bits_joined c.loop-at.row c.args.row.now c.args.other.now
      (word_joined c.loop-at.row c.args.row.now c.args.other.now c.loop-at.at (omega arith) c.loop-at.invariant.joined c.loop-at.invariant.rest);
}
