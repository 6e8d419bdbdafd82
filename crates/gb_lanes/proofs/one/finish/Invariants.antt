use Rattle.std.proofs.Common.{◌≡◌}
use Rattle.sha2.specs.Sha256.{hash_after, initial_hash_256, padded_message}
use Rattle.gb_lanes.proofs.one.finish.Given as goal

abbrev pub invariant-taken : goal.invariant-taken
invariant-taken l = l.fn.state ≡ hash_after initial_hash_256 (padded_message l.message.content.now) l.from
    → l.after ≡ hash_after initial_hash_256 (padded_message l.message.content.now) l.i
