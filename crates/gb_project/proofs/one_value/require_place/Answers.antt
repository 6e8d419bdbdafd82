use Rattle.std.proofs.lemmas.Result.{err_from_is_err_and}
use Rattle.gb_registry.specs.Tables.{tables_of}
use Rattle.gb_declare.specs.Realised.{as_place}
use Rattle.gb_project.specs.Given.{place_at, required_at}
use Rattle.gb_project.proofs.ReportLemmas.{first_fails, passed_on, sorted_shows, then_gives}
use Rattle.gb_project.proofs.one_value.require_place.Goals as goal

pub returns-in_err-value-clause-reported : goal.returns-in_err-value-clause-reported
returns-in_err-value-clause-reported g c = λ source number over.
    let tables = tables_of g.T.Transforms.meanings g.A.Actions.meanings c.args.context.now.tables.now in
    let path = c.args.path.now in
    let name = c.args.name.now in
    let entry = number c.args.node.number in
    let fault = c.in_err-value.field-0.0 in
    let p = err_from_is_err_and c.from_residual.result c.from_residual.ensures.1 in
    passed_on tables source (place_at tables source path name entry) c.from_residual.result p.0 fault p.1 p.2
    (first_fails tables source (required_at tables source path name entry) (as_place name) fault (c.in_err-value.ensures.reported source number over))

pub returns-clause-reported : goal.returns-clause-reported
returns-clause-reported g c = λ source number over.
    let tables = tables_of g.T.Transforms.meanings g.A.Actions.meanings c.args.context.now.tables.now in
    let path = c.args.path.now in
    let name = c.args.name.now in
    let entry = number c.args.node.number in
    then_gives tables source (required_at tables source path name entry) (as_place name) c.in_ok-value.value c.place_in.result (c.in_ok-value.ensures.reported source number over)
    (sorted_shows tables source (as_place name c.in_ok-value.value) c.place_in.result c.place_in.ensures)
