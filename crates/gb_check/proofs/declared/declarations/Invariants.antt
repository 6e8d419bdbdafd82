use Rattle.std.proofs.Common.{◌≡◌, take}
use Rattle.std.specs.List.{flat_map}
use Rattle.gb_plan.specs.Graph.{declaration_at}
use Rattle.gb_check.specs.Warnings.{declared_of}
use Rattle.gb_check.proofs.declared.declarations.Given as goal

abbrev pub invariant-loop-path : goal.invariant-loop-path
invariant-loop-path g l =
    let registry = g.Ts.Tasks.registry l.fn.tasks in
    record {
      kept : g.Ts.Tasks.registry l.tasks ≡ registry;
      declared : l.declared.items ≡ flat_map (λ path. declared_of (declaration_at registry path)) (take l.path-index l.names);
    }
