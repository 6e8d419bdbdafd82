use Rattle.std.proofs.Common.{◌≡◌, ◌+◌, ◌*◌, ◌-◌, ◌/◌, length, arith}
use Rattle.gb_lanes.proofs.PaddedLemmas.{block_of_content, block_of_tail}
use Rattle.gb_lanes.proofs.padded.Padded.block.Goals as goal

pub returns-then-index-whole-clause-block : goal.returns-then-index-whole-clause-block
returns-then-index-whole-clause-block c =
    let wide : c.args.index * 64 + 64 - c.args.index * 64 ≡ 64 = omega arith in
    rw wide (block_of_content c.args.self.now.content.now c.args.index c.if-index-whole.true)

pub returns-clause-block : goal.returns-clause-block
returns-clause-block c =
    let at = (c.args.index - length c.args.self.now.content.now / 64) * 64 in
    let wide : at + 64 - at ≡ 64 = omega arith in
    rw wide (block_of_tail c.args.self.now.tail c.args.self.now.content.now c.args.index c.args.self.now.tail_follows
    c.if-index-whole.false c.requires)
