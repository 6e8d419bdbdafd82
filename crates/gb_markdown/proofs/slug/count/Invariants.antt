use Rattle.std.proofs.Common.{◌≡◌, ◌≤◌, ◌+◌, bytes_eq, count_by, drop, map}
use Rattle.gb_markdown.proofs.slug.count.Given as goal

abbrev pub invariant-loop-other : goal.invariant-loop-other
invariant-loop-other l = record {
  low : l.earlier ≤ l.other-index;
  value : l.earlier + count_by (bytes_eq l.name) (map (λ other. other.items) (drop l.other-index l.names))
      ≡ count_by (bytes_eq l.name) (map (λ other. other.items) l.names);
}
