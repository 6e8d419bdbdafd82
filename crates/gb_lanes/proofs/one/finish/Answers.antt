use Rattle.std.proofs.Common.{◌≡◌, ℕ, List, ap, sym, ◌∙◌, arith}
use Rattle.sha2.specs.Sha256.{digest_bytes, hash_after, initial_hash_256, padded_message, sha256}
use Rattle.sha2.proofs.Absorbing256.{hash_after_next}
use Rattle.gb_lanes.specs.Padded.{block_count}
use Rattle.gb_lanes.proofs.one.finish.Goals as goal

pub taken-preserved : goal.taken-preserved
taken-preserved c = λ begun.
    let p = padded_message c.args.message.now.content.now in
    c.compress-next.ensures
    ∙ rw (c.taken.invariant begun, c.block.ensures.block) (sym (hash_after_next initial_hash_256 p c.taken.i))

pub returns : goal.returns
unfolding sha256
returns c = λ begun.
    let m = c.args.message.now.content.now in
    let done : c.taken.i ≡ block_count m = omega (arith, c.taken.auto.i-end) in
    c.bytes_of.ensures ∙ ap (λ (h : List ℕ). digest_bytes h 8)
    (c.taken.invariant begun ∙ ap (hash_after initial_hash_256 (padded_message m)) done)
