use Rattle.std.proofs.Common.{refl, arith, ◌∙◌}
use Rattle.std.proofs.lemmas.List.{take_rest}
use Rattle.gb_lanes.proofs.PaddedLemmas.{tail_made}
use Rattle.gb_lanes.proofs.padded.tail_of.Goals as goal
use Rattle.gb_lanes.proofs.padded.tail_of.Goals.{then-used-lt56, else-used-lt56}

pub returns : goal.returns
returns c = elim c.if-used-lt56.branch [
  | then-used-lt56 w ↦
      tail_made c.args.content.now _ _ _ _ _ refl (omega (arith, w.end-is, w.if-used-lt56.true)) (c.copy_from_slice.ensures.after ∙ take_rest c.args.content.now _)
      (c.copy_from_slice-2.ensures.after ∙ c.to_be_bytes.ensures)
  | else-used-lt56 w ↦
      tail_made c.args.content.now _ _ _ _ _ refl (omega (arith, w.end-is, w.if-used-lt56.false)) (c.copy_from_slice.ensures.after ∙ take_rest c.args.content.now _)
      (c.copy_from_slice-2.ensures.after ∙ c.to_be_bytes.ensures)
]
