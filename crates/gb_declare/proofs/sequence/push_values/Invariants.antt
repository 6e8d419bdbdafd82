use Rattle.std.proofs.Common.{◌≡◌, ◌++◌, map}
use Rattle.gb_declare.specs.Borrowed.{now_of, named_in}
use Rattle.gb_declare.specs.Joined.{Named}
use Rattle.gb_script.specs.Tree.{Tree}
use Rattle.gb_declare.proofs.sequence.push_values.Given as goal

abbrev pub invariant-loop-value : goal.invariant-loop-value
invariant-loop-value l =
    now_of l.to.items ++ map (λ (value : Named Tree). value.1) (map (λ e. (e.0, e.1.now)) l.value-iterator)
    ≡ now_of l.initial.to.items ++ map (λ value. value.1) (named_in l.values)
