use Rattle.std.proofs.Common.{◌≡◌, ◌++◌, map}
use Rattle.gb_declare.specs.Borrowed.{now_of, outputs_in}
use Rattle.gb_declare.specs.Joined.{Named, Made}
use Rattle.gb_declare.proofs.sequence.push_outputs.Given as goal

abbrev pub invariant-loop-made : goal.invariant-loop-made
invariant-loop-made l =
    now_of l.to.items ++ map (λ (output : Named Made). output.1.1) (map (λ e. (e.0, (e.1.0, e.1.1.now))) l.made-iterator)
    ≡ now_of l.initial.to.items ++ map (λ output. output.1.1) (outputs_in l.outputs)
