use Rattle.std.proofs.Common.{sym, subst, ◌∙◌}
use Rattle.gb_script.specs.View.{root_of}
use Rattle.gb_registry.specs.Configure.{missing_at_root}
use Rattle.gb_registry.specs.Faults.{ReportsFirst}
use Rattle.gb_registry.specs.References.{lookup_faults}
use Rattle.gb_registry.proofs.missing.MissingLook.source.Goals as goal

pub returns-in-Task : goal.returns-in-Task
returns-in-Task c =
    let names = c.args.self.now.names.now in
    let project = c.args.self.now.project.now in
    subst (λ source. ReportsFirst (missing_at_root names project (root_of source)) c.look_up.result) (sym c.in-Task.is)
    (subst (λ path. ReportsFirst (lookup_faults names path c.in-Task.text) c.look_up.result) (c.as_str.ensures.text ∙ c.path.ensures) c.look_up.ensures)
