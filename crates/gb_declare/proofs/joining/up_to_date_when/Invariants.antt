use Rattle.std.proofs.Common.{◌≡◌, ◌++◌, drop}
use Rattle.std.specs.Prelude.{filter_map}
use Rattle.gb_declare.specs.Borrowed.{now_of}
use Rattle.gb_declare.specs.Joined.{up_to_date_when_in}
use Rattle.gb_declare.proofs.joining.up_to_date_when.Given as goal

abbrev pub invariant-loop-clause : goal.invariant-loop-clause
invariant-loop-clause l =
    now_of l.found.items ++ filter_map up_to_date_when_in (now_of (drop l.clause-index l.clauses))
    ≡ filter_map up_to_date_when_in (now_of l.clauses)
