use Rattle.std.proofs.Common.{◌≡◌, ◌++◌, drop}
use Rattle.std.specs.Prelude.{filter_map}
use Rattle.gb_declare.specs.Borrowed.{now_of}
use Rattle.gb_declare.specs.Joined.{only_if_in}
use Rattle.gb_declare.proofs.joining.only_if.Given as goal

abbrev pub invariant-loop-clause : goal.invariant-loop-clause
invariant-loop-clause l =
    now_of l.found.items ++ filter_map only_if_in (now_of (drop l.clause-index l.clauses))
    ≡ filter_map only_if_in (now_of l.clauses)
