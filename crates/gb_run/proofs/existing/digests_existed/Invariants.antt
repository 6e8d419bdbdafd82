use Rattle.std.proofs.Common.{◌≡◌, []}
use Rattle.std.specs.Iterator.Adapters.{zip_first, zip_second}
use Rattle.std.specs.Slice.Iter.{iter_rest}
use Rattle.gb_semantics.specs.Made.{put_over}
use Rattle.gb_run.specs.ChangeDigests.{at_places, digests_at}
use Rattle.gb_run.proofs.existing.digests_existed.Given as goal

abbrev pub invariant-loop-output : goal.invariant-loop-output
invariant-loop-output l =
    put_over l.digests (at_places (digests_at (iter_rest (zip_first l.output-iterator)) (iter_rest (zip_second l.output-iterator))))
    ≡ put_over [] (at_places (digests_at l.outputs l.existed))
