use Rattle.std.proofs.Common.{ℕ, List, [], length, refl, ap, ◌∙◌}
use Rattle.std.specs.Prelude.{filter_map}
use Rattle.gb_registry.proofs.Firsts.{first_among, reported_on}
use Rattle.gb_registry.specs.Said.{declared_property}
use Rattle.gb_script.specs.declared.script.Statement.{Statement}
use Rattle.gb_declare.specs.Statements.{named_from, properties_made}
use Rattle.gb_declare.specs.Scripts.{build_faults}
use Rattle.gb_declare.proofs.PropertyLemmas.{laid_there}
use Rattle.gb_declare.proofs.script_nodes.add_script.Goals as goal

pub returns-in_err-build-clause-faults : goal.returns-in_err-build-clause-faults
returns-in_err-build-clause-faults g c =
    reported_on _ _ c.in_err-build.field-0.0 c.from_residual.ensures.1 (first_among (build_faults c.args.scripted.now.project) _ _ c.in_err-build.field-0.0 refl c.in_err-build.ensures.faults)

pub run_script-requires : goal.run_script-requires
run_script-requires g c =
    laid_there c.args.scripted.now.project c.in_ok-build.build c.args.given.now.entries c.in_ok-properties.properties.entries c.args.providers.now.nodes c.add_properties.new.providers.nodes
    (filter_map declared_property c.args.scripted.now.script)
    (c.in_ok-properties.ensures.named ∙ ap (λ (ss : List Statement). named_from (length c.args.providers.now.nodes) [] (filter_map declared_property ss)) c.statements-statements.ensures)
    (c.in_ok-properties.ensures.made.made
    ∙ ap (λ (p : List ℕ). properties_made p c.args.providers.now.nodes (filter_map declared_property c.statements-statements.result.now)) c.path.ensures
    ∙ ap (λ (ss : List Statement). properties_made c.args.scripted.now.project c.args.providers.now.nodes (filter_map declared_property ss)) c.statements-statements.ensures)
