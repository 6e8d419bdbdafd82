use Rattle.std.proofs.Common.{◌≡◌, ◌++◌, drop, reverse}
use Rattle.std.specs.Prelude.{filter_map}
use Rattle.std.specs.Option.{option_copied, option_to_list}
use Rattle.gb_declare.specs.Borrowed.{now_of}
use Rattle.gb_declare.specs.Joined.{first_in, last_in}
use Rattle.gb_declare.proofs.JoinLemmas.{round}
use Rattle.gb_declare.proofs.joining.actions.Given as goal

-- the actions read, with those of the remaining clauses around them
abbrev pub invariant-loop-clause : goal.invariant-loop-clause
invariant-loop-clause l =
    round (now_of (drop l.clause-index l.clauses)) (now_of l.actions)
    ≡ reverse (filter_map first_in (now_of l.clauses)) ++ option_to_list (option_copied l.fn.main) ++ filter_map last_in (now_of l.clauses)
