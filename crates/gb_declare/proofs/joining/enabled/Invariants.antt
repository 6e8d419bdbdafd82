use Rattle.std.proofs.Common.{◌≡◌, None, drop}
use Rattle.std.specs.Prelude.{filter_map}
use Rattle.std.specs.List.{last_or}
use Rattle.std.specs.Option.{option_copied}
use Rattle.gb_declare.specs.Borrowed.{now_of}
use Rattle.gb_declare.specs.Joined.{enabled_in}
use Rattle.gb_declare.proofs.joining.enabled.Given as goal

abbrev pub invariant-loop-clause : goal.invariant-loop-clause
invariant-loop-clause l =
    last_or (option_copied l.last) (filter_map enabled_in (now_of (drop l.clause-index l.clauses)))
    ≡ last_or None (filter_map enabled_in (now_of l.clauses))
