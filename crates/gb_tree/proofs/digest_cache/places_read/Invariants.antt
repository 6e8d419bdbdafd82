use Rattle.std.proofs.Common.{◌≡◌, length, take}
use Rattle.gb_tree.specs.DigestCache.{places_read}
use Rattle.gb_tree.proofs.digest_cache.places_read.Given as goal

abbrev pub invariant-loop-file : goal.invariant-loop-file
invariant-loop-file l = record {
  can_next : goal.iterator-loop-file.can_next l.file-iterator;
  is_finite : goal.iterator-loop-file.is_finite l.file-iterator;
  places : l.places.items ≡ places_read (take (length l.yielded) l.fn.files.items);
}
