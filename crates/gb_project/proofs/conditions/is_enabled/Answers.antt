use Rattle.std.proofs.Common.{sym, ap, ◌∙◌, subst, length}
use Rattle.std.specs.Option.{option_copied, option_to_list}
use Rattle.gb_registry.specs.Tables.{tables_of}
use Rattle.gb_project.specs.Rows.{AreFor}
use Rattle.gb_project.proofs.RowValueLemmas.{enabled_there}
use Rattle.gb_project.proofs.conditions.is_enabled.Goals as goal

pub returns-clause-reported : goal.returns-clause-reported
returns-clause-reported g c = λ source number over at is are.
    let context = c.args.context.now in
    let tables = tables_of g.T.Transforms.meanings g.A.Actions.meanings context.tables.now in
    let enabled = option_copied c.args.enabled in
    enabled_there tables source number at c.args.path.now is c.in-Some.node.now c.in-Some.field-0-1.now enabled (sym (ap length c.in-Some.ensures.cases.0) ∙ c.requires.count)
    (subst (λ row. AreFor tables source number at.project row (option_to_list enabled)) c.in-Some.ensures.cases.0 are)
    c.in_ok-name.name c.in_ok-name.ensures c.require_flag.result (c.require_flag.ensures.reported source number over)
