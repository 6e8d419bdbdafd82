use Rattle.std.proofs.Common.{sym, ap, subst, ◌∙◌}
use Rattle.std.specs.List.{flat_map}
use Rattle.gb_registry.specs.Configure.{script_missing}
use Rattle.gb_registry.specs.Faults.{ReportsFirst}
use Rattle.gb_registry.specs.SoFar.{scripts_in}
use Rattle.gb_registry.proofs.Placed.{all_missing}
use Rattle.gb_registry.proofs.configure.check_names.Goals as goal

pub returns : goal.returns
returns c =
    let scripts = scripts_in c.args.scripts.now in
    let projects = c.args.projects.now in
    subst (λ faults. ReportsFirst faults c.check_missing.result)
    (ap (λ tasks. flat_map (script_missing (record { projects = projects; tasks = tasks })) scripts) c.paths.ensures
    ∙ sym (all_missing (record { projects = projects; tasks = c.args.tasks.now }) scripts))
    c.check_missing.ensures
