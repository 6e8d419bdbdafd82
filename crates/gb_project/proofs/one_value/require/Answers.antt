use Rattle.std.proofs.Common.{Ok, inr, ap, ◌∙◌}
use Rattle.std.proofs.lemmas.Result.{err_from_is_err_and}
use Rattle.gb_registry.specs.Tables.{tables_of}
use Rattle.gb_report.specs.declared.fault.Fault.TheVariants.{NoValue}
use Rattle.gb_declare.specs.Realised.{Plain, and_then, present}
use Rattle.gb_project.specs.Given.{given_at, required_at}
use Rattle.gb_project.proofs.ReportLemmas.{first_fails, passed_on}
use Rattle.gb_project.proofs.one_value.require.Goals as goal

pub returns-in_err-value-clause-reported : goal.returns-in_err-value-clause-reported
returns-in_err-value-clause-reported g c = λ source number over.
    let tables = tables_of g.T.Transforms.meanings g.A.Actions.meanings c.args.context.now.tables.now in
    let path = c.args.path.now in
    let name = c.args.name.now in
    let entry = number c.args.node.number in
    let fault = c.in_err-value.field-0.0 in
    let p = err_from_is_err_and c.from_residual.result c.from_residual.ensures.1 in
    passed_on tables source (required_at tables source path name entry) c.from_residual.result p.0 fault p.1 p.2
    (first_fails tables source (given_at tables source entry) (present path name) fault (c.in_err-value.ensures.reported source number over))

pub returns-in-Some-clause-reported : goal.returns-in-Some-clause-reported
returns-in-Some-clause-reported g c = λ source number over.
    ap (λ r. and_then r (present c.args.path.now c.args.name.now)) (c.in_ok-value.ensures.reported source number over ∙ ap Ok c.in-Some.is)

pub returns-in_ok-copy-in-None-2-clause-reported : goal.returns-in_ok-copy-in-None-2-clause-reported
returns-in_ok-copy-in-None-2-clause-reported g c = λ source number over.
    let path = c.args.path.now in
    let name = c.args.name.now in
    inr (
      Plain (NoValue path name),
      ap (λ r. and_then r (present path name)) (c.in_ok-value.ensures.reported source number over ∙ ap Ok c.in-None.is),
      λ i. NoValue (c.in_ok-copy-in-None.ensures i) (c.in_ok-copy-in-None-2.ensures i),
    )
