use Rattle.std.proofs.Common.{◌≡◌, drop, fold}
use Rattle.std.specs.Prelude.{filter_map}
use Rattle.std.specs.FinMap.Entries.{put}
use Rattle.gb_core.specs.Lists.{byte_order}
use Rattle.gb_declare.specs.Borrowed.{now_of, named_in}
use Rattle.gb_declare.specs.Joined.{by_name, value_in}
use Rattle.gb_declare.proofs.joining.values.Given as goal

-- those that are left override those found
abbrev pub invariant-loop-clause : goal.invariant-loop-clause
invariant-loop-clause l =
    fold (λ there entry. put byte_order entry.0 entry.1 there) (named_in l.values) (filter_map value_in (now_of (drop l.clause-index l.clauses)))
    ≡ by_name (filter_map value_in (now_of l.clauses))
