use Rattle.std.proofs.Common.{◌≡◌, ◌++◌, drop}
use Rattle.gb_declare.specs.Borrowed.{now_of}
use Rattle.gb_declare.proofs.sequence.push_row.Given as goal

abbrev pub invariant-loop-expression : goal.invariant-loop-expression
invariant-loop-expression l =
    now_of l.to.items ++ drop l.expression-index l.row ≡ now_of l.initial.to.items ++ l.row
