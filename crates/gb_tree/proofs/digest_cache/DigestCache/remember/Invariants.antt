use Rattle.std.proofs.Common.{◌++◌, length, take}
use Rattle.gb_tree.specs.DigestCache.{AreAmong, seen_in}
use Rattle.gb_tree.proofs.digest_cache.DigestCache.remember.Given as goal

abbrev pub invariant-loop-reading : goal.invariant-loop-reading
invariant-loop-reading l = record {
  can_next : goal.iterator-loop-reading.can_next l.reading-iterator;
  is_finite : goal.iterator-loop-reading.is_finite l.reading-iterator;
  remembered : AreAmong l.self (l.fn.self ++ seen_in (take (length l.yielded) l.fn.readings.items));
}
