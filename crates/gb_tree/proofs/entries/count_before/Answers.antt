use Rattle.std.proofs.Common.{rules}
use Rattle.std.proofs.lemmas.List.Sorted.{IsPartitionPoint-from_clause}
use Rattle.std.specs.Ordering.{is_lt}
use Rattle.gb_core.specs.Lists.{byte_order}
use Rattle.gb_tree.proofs.Doubles.{all_before, all_from, parted}
use Rattle.gb_tree.proofs.entries.count_before.Goals as goal

pub returns-clause-before : goal.returns-clause-before
returns-clause-before c =
    all_before c.args.text.now c.args.entries.now c.partition_point.result c.partition_point.ensures.bound
    (IsPartitionPoint-from_clause (λ entry. is_lt (byte_order entry.0 c.args.text.now)) _ _ c.partition_point.ensures.partitioned (parted c.args.text.now c.args.entries.now c.requires) (λ a r q h. search rules))

pub returns-clause-from : goal.returns-clause-from
returns-clause-from c =
    all_from c.args.text.now c.args.entries.now c.partition_point.result
    (IsPartitionPoint-from_clause (λ entry. is_lt (byte_order entry.0 c.args.text.now)) _ _ c.partition_point.ensures.partitioned (parted c.args.text.now c.args.entries.now c.requires) (λ a r q h. search rules))
