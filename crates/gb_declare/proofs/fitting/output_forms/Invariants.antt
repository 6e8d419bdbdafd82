use Rattle.std.proofs.Common.{◌≡◌, ◌++◌, map}
use Rattle.gb_declare.proofs.fitting.output_forms.Given as goal

abbrev pub invariant-loop-name : goal.invariant-loop-name
invariant-loop-name l = l.forms.items ++ map (λ e. (e.0, e.1.0)) l.name-iterator ≡ map (λ e. (e.0, e.1.0)) l.outputs.entries
