use Rattle.std.proofs.Common.{◌≡◌, [], drop}
use Rattle.std.specs.Prelude.{filter_map}
use Rattle.gb_registry.specs.Projects.{with_paths}
use Rattle.gb_registry.specs.Said.{declared_property}
use Rattle.gb_project.proofs.properties.properties_of.Given as goal

abbrev pub invariant-loop-statement : goal.invariant-loop-statement
invariant-loop-statement l =
    with_paths l.found (filter_map declared_property (drop l.statement-index l.statements))
    ≡ with_paths [] (filter_map declared_property l.statements)
