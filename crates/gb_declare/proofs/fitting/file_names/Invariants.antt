use Rattle.std.proofs.Common.{◌≡◌, ◌++◌, map}
use Rattle.gb_declare.proofs.fitting.file_names.Given as goal

abbrev pub invariant-loop-name : goal.invariant-loop-name
invariant-loop-name l = l.names.items ++ map (λ e. e.0) l.name-iterator ≡ map (λ e. e.0) l.files.entries
