use Rattle.std.proofs.Common.{[], Ok, Err}
use Rattle.std.proofs.lemmas.Result.{err_from_is_err_and}
use Rattle.gb_project.proofs.ReportLemmas.{first_fails, passed_on, sorted_shows, then_gives}
use Rattle.gb_registry.specs.Tables.{tables_of}
use Rattle.gb_declare.specs.Realised.{built, output_under, place_of}
use Rattle.gb_declare.specs.Whole.{spots, whole}
use Rattle.gb_project.proofs.OutputValueLemmas.{built_there}
use Rattle.gb_project.proofs.RowValueLemmas.{first_for, place_there}
use Rattle.gb_project.proofs.output_values.output.Goals as goal

pub returns-in_err-place-clause-reported : goal.returns-in_err-place-clause-reported
returns-in_err-place-clause-reported g c = λ tree source number over at is are.
    let context = c.args.context.now in
    let tables = tables_of g.T.Transforms.meanings g.A.Actions.meanings context.tables.now in
    let name = c.args.name.now in
    let form = c.args.form in
    let same = first_for tables source number at.project c.args.node [] tree [] are in
    let place = place_of tables source at (spots tables source) (whole tables source) name tree in
    let fault = c.in_err-place.field-0.0 in
    let p = err_from_is_err_and c.from_residual.result c.from_residual.ensures.1 in
    passed_on tables source (output_under tables source at (spots tables source) (whole tables source) (name, (form, tree))) c.from_residual.result p.0 fault p.1 p.2
    (first_fails tables source place (λ place. built tables source at (spots tables source) (whole tables source) (record { name = name; form = form; place = place })) fault
    (place_there tables source number at c.args.path.now is.0 (number c.args.node.number) tree same name (Err fault) (c.in_err-place.ensures.reported source number over)))

pub returns-clause-reported : goal.returns-clause-reported
returns-clause-reported g c = λ tree source number over at is are.
    let context = c.args.context.now in
    let tables = tables_of g.T.Transforms.meanings g.A.Actions.meanings context.tables.now in
    let name = c.args.name.now in
    let form = c.args.form in
    let same = first_for tables source number at.project c.args.node [] tree [] are in
    let place = place_of tables source at (spots tables source) (whole tables source) name tree in
    then_gives tables source place (λ place. built tables source at (spots tables source) (whole tables source) (record { name = name; form = form; place = place })) c.in_ok-place.place c.built.result
    (place_there tables source number at c.args.path.now is.0 (number c.args.node.number) tree same name (Ok c.in_ok-place.place) (c.in_ok-place.ensures.reported source number over))
    (sorted_shows tables source (built tables source at (spots tables source) (whole tables source) (record { name = name; form = form; place = c.in_ok-place.place })) c.built.result
    (built_there tables source at c.args.path.now c.args.build.now is c.in_ok-name.name name form c.in_ok-place.place c.in_ok-name.ensures c.built.result c.built.ensures))
