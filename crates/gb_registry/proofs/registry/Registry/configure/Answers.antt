use Rattle.std.proofs.Common.{sym, ap, ◌∙◌}
use Rattle.std.specs.Prelude.{length}
use Rattle.gb_registry.proofs.registry.Registry.configure.Goals as goal

pub configure_projects-requires : goal.configure_projects-requires
configure_projects-requires g c = record {
  of_settings = (c.args.settings.now, c.requires.good, c.in-Ok.ensures.projects);
  one_each = c.requires.one_each ∙ ap length (sym c.in-Ok.ensures.projects);
}
