use Rattle.std.proofs.lemmas.Result.{err_from_is_err_and}
use Rattle.gb_provider.specs.Table.{test_named}
use Rattle.gb_registry.specs.Tables.{tables_of}
use Rattle.gb_declare.specs.Realised.{truth_of}
use Rattle.gb_declare.specs.Whole.{spots, whole}
use Rattle.gb_project.specs.Given.{given_at, truth_at}
use Rattle.gb_project.proofs.ReportLemmas.{first_fails, passed_on, sorted_shows, then_gives}
use Rattle.gb_project.proofs.one_value.passes.Goals as goal

pub returns-in_err-value-clause-reported : goal.returns-in_err-value-clause-reported
returns-in_err-value-clause-reported g c = λ at source number over.
    let tables = tables_of g.T.Transforms.meanings g.A.Actions.meanings c.args.context.now.tables.now in
    let entry = number c.args.node.number in
    let test = c.args.test.now in
    let fault = c.in_err-value.field-0.0 in
    let p = err_from_is_err_and c.from_residual.result c.from_residual.ensures.1 in
    passed_on tables source (truth_at tables source at test entry) c.from_residual.result p.0 fault p.1 p.2
    (first_fails tables source (given_at tables source entry) (truth_of tables source at (spots tables source) (whole tables source) test (test_named tables.functions test.name)) fault
    (c.in_err-value.ensures.reported source number over))

pub returns-clause-reported : goal.returns-clause-reported
returns-clause-reported g c = λ at source number over.
    let tables = tables_of g.T.Transforms.meanings g.A.Actions.meanings c.args.context.now.tables.now in
    let entry = number c.args.node.number in
    let test = c.args.test.now in
    let says = truth_of tables source at (spots tables source) (whole tables source) test (test_named tables.functions test.name) in
    then_gives tables source (given_at tables source entry) says c.in_ok-value.value c.truth_of-truth.result (c.in_ok-value.ensures.reported source number over)
    (sorted_shows tables source (says c.in_ok-value.value) c.truth_of-truth.result (c.truth_of-truth.ensures source at))
