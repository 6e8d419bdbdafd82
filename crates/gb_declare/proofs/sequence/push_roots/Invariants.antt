use Rattle.std.proofs.Common.{◌≡◌, ◌++◌, map}
use Rattle.std.specs.List.{flat_map}
use Rattle.gb_declare.specs.Borrowed.{now_of, named_in}
use Rattle.gb_declare.specs.Joined.{Named}
use Rattle.gb_script.specs.declared.script.InputFiles.{InputFiles}
use Rattle.gb_declare.proofs.sequence.push_roots.Given as goal

abbrev pub invariant-loop-property : goal.invariant-loop-property
invariant-loop-property l =
    now_of l.to.items ++ flat_map (λ (files : Named InputFiles). files.1.from) (map (λ e. (e.0, e.1.now)) l.property-iterator)
    ≡ now_of l.initial.to.items ++ flat_map (λ files. files.1.from) (named_in l.files)
